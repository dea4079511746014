use Rattle.std.proofs.Common.{◌∙◌, ap, sym, subst}
use Rattle.dubp_forks.specs.Stores.{AreOutside}
use Rattle.dubp_validity.specs.Rules.{IsValid}
use Rattle.dubp_turns.proofs.Outside.{outside_drop}
use Rattle.dubp_turns.proofs.Valid.{valid_drop}
use Rattle.dubp_turns.proofs.branches.Branches.revert.Goals as goal
use Rattle.dubp_turns.proofs.branches.Branches.revert.Goals.{in-Ok, in-Err}

pub invariant_of-self : goal.invariant_of-self
invariant_of-self g c =
    let s = c.self.inside in
    elim c.match-revert.branch [
      | in-Ok w ↦ (
        ap (λ k. k.out) w.in-Ok.ensures.reverted.1 ∙ c.self.invariant.0,
        subst (λ k. AreOutside s.store k.chain) (sym w.in-Ok.ensures.reverted.1) (outside_drop s.store s.ledger.chain c.args.count c.self.invariant.1),
        subst (λ k. IsValid s.verdicts k.chain) (sym w.in-Ok.ensures.reverted.1) (valid_drop s.verdicts s.ledger.chain c.args.count c.self.invariant.2),
      )
      | in-Err w ↦ (
        ap (λ k. k.out) (w.in-Err.ensures.refused).same ∙ c.self.invariant.0,
        subst (λ k. AreOutside s.store k.chain) (sym (w.in-Err.ensures.refused).same) c.self.invariant.1,
        subst (λ k. IsValid s.verdicts k.chain) (sym (w.in-Err.ensures.refused).same) c.self.invariant.2,
      )
    ]
