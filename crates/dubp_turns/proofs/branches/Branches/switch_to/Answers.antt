use Rattle.std.proofs.Common.{Result, subst}
use Rattle.dubp_forks.specs.Stores.{state_of}
use Rattle.dubp_forks.specs.Switches.{Switched}
use Rattle.dubp_replay.specs.Turns.{Branches}
use Rattle.dubp_turns.proofs.Valid.{valid_switched}
use Rattle.dubp_turns.proofs.branches.Branches.switch_to.Goals as goal

pub invariant_of-self : goal.invariant_of-self
invariant_of-self g c =
    let s = c.self.inside in (
      c.switch-outcome.ensures.out,
      c.switch-outcome.ensures.outside,
      valid_switched c.blocks_have_one_text.ensures (state_of s.verdicts s.ledger s.store) c.args.stamp c.switch-outcome.result (state_of s.verdicts c.switch-outcome.new.ledger c.switch-outcome.new.self) c.switch-outcome.ensures.switched c.laws.ensures.blocks c.laws.ensures.short c.self.invariant.2,
    )

pub returns : goal.returns
returns g c =
    let s = c.self.inside in
    subst (λ (x : Branches). Switched x c.args.stamp c.switch-outcome.result (state_of s.verdicts c.switch-outcome.new.ledger c.switch-outcome.new.self)) c.self.view_is c.switch-outcome.ensures.switched
