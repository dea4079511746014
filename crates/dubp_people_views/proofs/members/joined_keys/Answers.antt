use Rattle.std.proofs.Common.{[], ap}
use Rattle.std.specs.List.{list_any}
use Rattle.dubp_atoms.specs.Same.{same_text}
use Rattle.dubp_lists.proofs.OneMore.{one_key_more}
use Rattle.dubp_people_views.proofs.members.joined_keys.Goals as goal

pub loop-line-init : goal.loop-line-init
loop-line-init c = λ k. ap (list_any (same_text k)) c.with_hasher-set.ensures.empty

pub loop-line-preserved : goal.loop-line-preserved
loop-line-preserved c =
    one_key_more c.args.lines.now c.loop-line.line-index c.line-item.result [] c.loop-line.set.keys c.insert.new.set.keys c.loop-line-test.true c.line-item.is
    c.loop-line.invariant c.in_ok-insert.ensures.has
