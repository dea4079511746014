use Rattle.std.proofs.Common.{◌≡◌, ◌∙◌, ap, option_map, sym}
use Rattle.std.specs.Map.Iter.{deref_pair}
use Rattle.dubp_atoms.specs.declared.stamp.Stamp.{Stamp}
use Rattle.dubp_block.specs.declared.block.Block.{Block}
use Rattle.dubp_replay.specs.Turns.{previous_stamp}
use Rattle.dubp_forks.specs.Entries.{entry_of}
use Rattle.dubp_forks.proofs.Kept.{kept_at}
use Rattle.dubp_forks.proofs.Keyed.{same_some}
use Rattle.dubp_forks.proofs.store.Store.entry.Goals as goal

pub returns : goal.returns
returns c = λ b f.
    let there = kept_at c.self.inside.blocks.entries c.args.self.now c.args.place b c.self.invariant c.self.view_is f in
    let pair : deref_pair c.unwrap.result ≡ entry_of b = same_some (deref_pair c.unwrap.result) (entry_of b) (ap (option_map deref_pair) (sym c.unwrap.ensures) ∙ c.get_index.ensures.entry ∙ there) in
    (ap (λ (e : Stamp × Block). e.0) pair, c.previous.ensures ∙ ap (λ (e : Stamp × Block). previous_stamp e.1) pair)
