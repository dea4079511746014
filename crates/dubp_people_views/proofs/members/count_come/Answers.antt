use Rattle.std.proofs.Common.{◌≤◌, ◌+◌, ◌∙◌, ℕ, sym, subst, arith}
use Rattle.indexmap.specs.IndexSet.{contains}
use Rattle.dubp_atoms.specs.Same.{same_text}
use Rattle.dubp_lists.proofs.Passing.{one_passes, one_fails}
use Rattle.dubp_people_views.specs.Counting.{is_new_member}
use Rattle.dubp_people_views.proofs.members.count_come.Goals as goal
use Rattle.dubp_people_views.proofs.members.count_come.Goals.{then-is_new, else-is_new}

pub loop-i-preserved : goal.loop-i-preserved
loop-i-preserved c =
    let i = c.loop-i.i in
    let keys = c.args.keys.now.keys in
    let x = c.index.result.now in
    let before = c.loop-i.invariant in
    record {
      small = elim c.if-is_new.branch [
        | then-is_new w ↦ subst (λ (n : ℕ). n ≤ i + 1) (sym w.count-is) (omega (arith, before.small))
        | else-is_new w ↦ subst (λ (n : ℕ). n ≤ i + 1) (sym w.count-is) (omega (arith, before.small))
      ];
      counted = λ chain at sound. elim c.if-is_new.branch [
        | then-is_new w ↦
            w.count-is
            ∙ one_passes (is_new_member chain (contains same_text c.args.excluded.now)) keys i x c.index.ensures c.loop-i.count (before.counted chain at sound) (sym (c.is_new.ensures chain at sound) ∙ w.if-is_new.true)
        | else-is_new w ↦
            w.count-is
            ∙ one_fails (is_new_member chain (contains same_text c.args.excluded.now)) keys i x c.index.ensures c.loop-i.count (before.counted chain at sound) (sym (c.is_new.ensures chain at sound) ∙ w.if-is_new.false)
      ];
    }
