use Rattle.std.proofs.Common.{ap, ◌∙◌}
use Rattle.std.specs.List.{list_any}
use Rattle.dubp_replay.specs.Turns.{is_stamped}
use Rattle.dubp_forks.proofs.Kept.{kept_any}
use Rattle.dubp_forks.proofs.store.Store.has.Goals as goal

pub returns : goal.returns
returns c = c.contains_key.ensures ∙ kept_any c.self.inside.blocks.entries c.args.stamp.now c.self.invariant ∙ ap (list_any (is_stamped c.args.stamp.now)) c.self.view_is
