use Rattle.std.proofs.Common.{true, false, arith}
use Rattle.dubp_people_rules.specs.Lines.{IsKicked}
use Rattle.dubp_lists.proofs.Rests.{rests_first, rests_one_more, fails_all, passes_all}
use Rattle.dubp_people_rules.proofs.Sections.{on_lines}
use Rattle.dubp_people_rules.proofs.exclusions.excluded_are_kicked.Goals as goal

pub loop-key-init : goal.loop-key-init
loop-key-init c = λ ch at. rests_first (IsKicked ch) _

pub returns-then-not-is_kicked : goal.returns-then-not-is_kicked
returns-then-not-is_kicked c = λ ch at.
    on_lines (IsKicked ch) false c.as_slice-keys.ensures
    (fails_all (IsKicked ch) c.as_slice-keys.result.now c.loop-key.key-index c.key-item.result _ c.loop-key-test.true c.key-item.is (c.is_kicked.ensures ch at) c.if-not-is_kicked.true
    (c.loop-key.invariant ch at))

pub loop-key-preserved : goal.loop-key-preserved
loop-key-preserved c = λ ch at.
    rests_one_more (IsKicked ch) c.as_slice-keys.result.now c.loop-key.key-index c.key-item.result c.loop-key-test.true c.key-item.is ((c.is_kicked.ensures ch at).0 c.if-not-is_kicked.false)
    (c.loop-key.invariant ch at)

pub returns : goal.returns
returns c = λ ch at.
    on_lines (IsKicked ch) true c.as_slice-keys.ensures
    (passes_all (IsKicked ch) c.as_slice-keys.result.now c.loop-key.key-index (omega arith) (c.loop-key.invariant ch at))
