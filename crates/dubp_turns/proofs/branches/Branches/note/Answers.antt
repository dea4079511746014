use Rattle.std.proofs.Common.{sym, subst}
use Rattle.dubp_validity.specs.Rules.{IsValid}
use Rattle.dubp_verdict.specs.Verdicts.{verdict_of}
use Rattle.dubp_turns.proofs.Valid.{valid_with}
use Rattle.dubp_turns.proofs.branches.Branches.note.Goals as goal
use Rattle.dubp_turns.proofs.branches.Branches.note.Goals.{in-Ok, in-Err}

pub invariant_of-self : goal.invariant_of-self
invariant_of-self g c =
    let s = c.self.inside in
    elim c.match-add.branch [
      | in-Ok w ↦ (
        c.self.invariant.0,
        c.self.invariant.1,
        subst (λ v. IsValid v s.ledger.chain) (sym w.in-Ok.ensures.added) (valid_with (verdict_of c.args.key c.args.hash c.args.sig) s.verdicts s.ledger.chain c.self.invariant.2),
      )
      | in-Err w ↦ (c.self.invariant.0, c.self.invariant.1, subst (λ v. IsValid v s.ledger.chain) (sym w.in-Err.ensures.refused) c.self.invariant.2)
    ]
