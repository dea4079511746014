use Rattle.std.proofs.Common.{◌<◌, refl, sym, subst, arith}
use Rattle.std.proofs.lemmas.List.{get_or-replicate}
use Rattle.dubp_local.proofs.Counts.{Counts, counts_one_more, counts_past}
use Rattle.dubp_local.proofs.unlocks.unlock_counts.Goals as goal
use Rattle.dubp_local.proofs.unlocks.unlock_counts.Goals.{then-line, else-line}

pub loop-line-init : goal.loop-line-init
loop-line-init c = record { long = refl; each = λ i small. get_or-replicate 100 i 0 0 small }

pub loop-line-preserved : goal.loop-line-preserved
loop-line-preserved c =
    elim c.if-line.branch [
      | then-line w ↦ subst (Counts (λ line. line.input) 100 _ _) (sym w.counts-is) (counts_one_more _ _ _ _ c.line-item.result _ c.loop-line-test.true c.line-item.is c.loop-line.invariant w.if-line.true)
      | else-line w ↦
          let past : c.line-item.result.input < 100 → ⊥ = λ small. omega arith in
          subst (Counts (λ line. line.input) 100 _ _) (sym w.counts-is) (counts_past _ _ _ _ c.line-item.result _ c.loop-line-test.true c.line-item.is c.loop-line.invariant past)
    ]
