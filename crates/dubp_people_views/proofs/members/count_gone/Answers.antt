use Rattle.std.proofs.Common.{◌≤◌, ◌+◌, ◌∙◌, ℕ, true, false, sym, subst, arith}
use Rattle.dubp_lists.proofs.Passing.{one_passes, one_fails}
use Rattle.dubp_people_views.specs.Counting.{is_old_member}
use Rattle.dubp_people_views.proofs.Counting.{old_told}
use Rattle.dubp_people_views.proofs.members.count_gone.Goals as goal
use Rattle.dubp_people_views.proofs.members.count_gone.Goals.{then-is_member, else-is_member}

pub loop-i-preserved : goal.loop-i-preserved
loop-i-preserved c =
    let i = c.loop-i.i in
    let keys = c.args.keys.now.keys in
    let x = c.index.result.now in
    let before = c.loop-i.invariant in
    record {
      small = elim c.if-is_member.branch [
        | then-is_member w ↦ subst (λ (n : ℕ). n ≤ i + 1) (sym w.count-is) (omega (arith, before.small))
        | else-is_member w ↦ subst (λ (n : ℕ). n ≤ i + 1) (sym w.count-is) (omega (arith, before.small))
      ];
      counted = λ chain at sound. elim c.if-is_member.branch [
        | then-is_member w ↦
            w.count-is
            ∙ one_passes (is_old_member chain) keys i x c.index.ensures c.loop-i.count (before.counted chain at sound) (old_told chain x c.is_member.result (c.is_member.ensures chain at sound) true w.if-is_member.true)
        | else-is_member w ↦
            w.count-is
            ∙ one_fails (is_old_member chain) keys i x c.index.ensures c.loop-i.count (before.counted chain at sound) (old_told chain x c.is_member.result (c.is_member.ensures chain at sound) false w.if-is_member.false)
      ];
    }
