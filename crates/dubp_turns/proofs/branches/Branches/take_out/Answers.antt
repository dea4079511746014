use Rattle.std.proofs.Common.{◌∙◌, ap, sym, subst}
use Rattle.dubp_forks.specs.Stores.{AreOutside, state_of}
use Rattle.dubp_replay.specs.Turns.{Branches, without}
use Rattle.dubp_turns.proofs.Outside.{outside_without}
use Rattle.dubp_turns.proofs.branches.Branches.take_out.Goals as goal

pub invariant_of-self : goal.invariant_of-self
invariant_of-self g c =
    let s = c.self.inside in
    (c.self.invariant.0, subst (λ x. AreOutside x s.ledger.chain) (sym c.forget.ensures.left) (outside_without c.args.stamp s.store s.ledger.chain c.self.invariant.1), c.self.invariant.2)

pub returns : goal.returns
returns g c =
    let s = c.self.inside in
    ap (state_of s.verdicts s.ledger) c.forget.ensures.left ∙ ap (λ (x : Branches). record x { store = without c.args.stamp x.store }) c.self.view_is
