use Rattle.std.proofs.Common.{◌≤◌, ◌+◌, ◌∙◌, ℕ, true, false, sym, subst, arith}
use Rattle.dubp_people_after.specs.Near.{is_issuer}
use Rattle.dubp_lists.proofs.Passing.{one_passes, one_fails}
use Rattle.dubp_people_after.proofs.Counting.{issuer_told}
use Rattle.dubp_people_after.proofs.counts.count_issuers.Goals as goal
use Rattle.dubp_people_after.proofs.counts.count_issuers.Goals.{then-is_live, else-is_live}

pub loop-i-preserved : goal.loop-i-preserved
loop-i-preserved g c =
    let i = c.loop-i.i in
    let key = c.args.key.now in
    let keys = c.args.near.now.keys in
    let x = c.index.result.now in
    let before = c.loop-i.invariant in
    record {
      small = elim c.if-is_live.branch [
        | then-is_live w ↦ subst (λ (n : ℕ). n ≤ i + 1) (sym w.count-is) (omega (arith, before.small))
        | else-is_live w ↦ subst (λ (n : ℕ). n ≤ i + 1) (sym w.count-is) (omega (arith, before.small))
      ];
      counted = λ chain b shown. elim c.if-is_live.branch [
        | then-is_live w ↦
            w.count-is
            ∙ one_passes (is_issuer chain b key) keys i x c.index.ensures c.loop-i.count (before.counted chain b shown)
            (issuer_told chain b key x c.is_live.result (c.is_live.ensures chain b shown) true w.if-is_live.true)
        | else-is_live w ↦
            w.count-is
            ∙ one_fails (is_issuer chain b key) keys i x c.index.ensures c.loop-i.count (before.counted chain b shown)
            (issuer_told chain b key x c.is_live.result (c.is_live.ensures chain b shown) false w.if-is_live.false)
      ];
    }
