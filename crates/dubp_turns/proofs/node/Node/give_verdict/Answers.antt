use Rattle.std.proofs.Common.{◌∷◌, [], ap, refl, subst, sym}
use Rattle.dubp_replay.specs.Answers.{noted_answer}
use Rattle.dubp_replay.specs.Turns.{Branches, State}
use Rattle.dubp_choosing.specs.States.{state_with}
use Rattle.dubp_choosing.proofs.Turns.{held_same}
use Rattle.dubp_turns.specs.Given.{IsGivenAll, verdict_given}
use Rattle.dubp_turns.proofs.Given.{given_one}
use Rattle.dubp_turns.proofs.node.Node.give_verdict.Goals as goal

pub invariant_of-self-2 : goal.invariant_of-self-2
invariant_of-self-2 g c =
    let s = c.self.inside in
    held_same s.branches.store c.give_verdict.new.self.store s.failures.items c.self.invariant (ap (λ (b : Branches). b.store) c.in_ok-give_verdict.ensures.given)

pub returns-clause-given : goal.returns-clause-given
returns-clause-given g c =
    let s = c.self.inside in
    let b = c.give_verdict.new.self in
    let new = state_with s.pool b s.auto s.failures.items in
    let held = held_same s.branches.store b.store s.failures.items c.self.invariant (ap (λ (b : Branches). b.store) c.in_ok-give_verdict.ensures.given) in
    subst (λ (x : State). IsGivenAll (verdict_given c.args.given ∷ []) x new) c.self.view_is
    (given_one (verdict_given c.args.given) noted_answer (state_with s.pool s.branches s.auto s.failures.items) new (b, (refl, c.in_ok-give_verdict.ensures.given), ap (state_with s.pool b s.auto) (sym held)))
