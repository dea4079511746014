use Rattle.std.proofs.Common.{◌∙◌, ap, is_some, List}
use Rattle.dubp_block.specs.declared.block.Block.{Block}
use Rattle.dubp_replay.specs.Turns.{stored, without}
use Rattle.dubp_forks.specs.Entries.{blocks_in}
use Rattle.dubp_forks.proofs.Kept.{entries_without, kept_from, kept_is_some, stored_without, view_from}
use Rattle.dubp_forks.proofs.store.Store.forget.Goals as goal

pub invariant_of-self : goal.invariant_of-self
invariant_of-self c =
    let entries = c.self.inside.blocks.entries in
    kept_from (without c.args.stamp (blocks_in entries)) c.shift_remove.new.self.entries
    (c.shift_remove.ensures.entries ∙ entries_without entries c.args.stamp c.self.invariant)
    (stored_without c.args.stamp (blocks_in entries) c.self.invariant.stored)

pub returns-clause-was : goal.returns-clause-was
returns-clause-was c =
    c.is_some.ensures ∙ ap is_some c.shift_remove.ensures.value ∙ kept_is_some c.self.inside.blocks.entries c.args.stamp c.self.invariant
    ∙ ap (λ (s : List Block). is_some (stored s c.args.stamp)) c.self.view_is

pub returns-clause-left : goal.returns-clause-left
returns-clause-left c =
    view_from (without c.args.stamp (blocks_in c.self.inside.blocks.entries)) c.shift_remove.new.self.entries
    (c.shift_remove.ensures.entries ∙ entries_without c.self.inside.blocks.entries c.args.stamp c.self.invariant)
    ∙ ap (without c.args.stamp) c.self.view_is
