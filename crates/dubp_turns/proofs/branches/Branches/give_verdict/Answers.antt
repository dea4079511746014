use Rattle.std.proofs.Common.{ap, subst, sym, ◌∙◌}
use Rattle.dubp_validity.specs.Rules.{IsValid}
use Rattle.dubp_turns.proofs.Valid.{valid_with}
use Rattle.dubp_verdict.specs.Verdicts.{verdict_of, with_verdict}
use Rattle.dubp_forks.specs.Stores.{state_of}
use Rattle.dubp_replay.specs.Turns.{Branches}
use Rattle.dubp_turns.proofs.branches.Branches.give_verdict.Goals as goal

pub returns-clause-given : goal.returns-clause-given
returns-clause-given g c =
    let s = c.self.inside in
    let x = verdict_of c.args.given.0 c.args.given.1 c.args.given.2 in
    ap (λ v. state_of v s.ledger s.store) c.in_ok-add.ensures.added ∙ ap (λ (old : Branches). record old { verdicts = with_verdict x old.verdicts }) c.self.view_is

pub invariant_of-self : goal.invariant_of-self
invariant_of-self g c =
    let s = c.self.inside in
    (c.self.invariant.0, c.self.invariant.1, subst (λ v. IsValid v s.ledger.chain) (sym c.in_err-add.ensures.refused) c.self.invariant.2)

pub invariant_of-self-2 : goal.invariant_of-self-2
invariant_of-self-2 g c =
    let s = c.self.inside in
    let x = verdict_of c.args.given.0 c.args.given.1 c.args.given.2 in
    (c.self.invariant.0, c.self.invariant.1, subst (λ v. IsValid v s.ledger.chain) (sym c.in_ok-add.ensures.added) (valid_with x s.verdicts s.ledger.chain c.self.invariant.2))
