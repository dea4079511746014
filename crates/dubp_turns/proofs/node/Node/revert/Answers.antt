use Rattle.std.proofs.Common.{subst}
use Rattle.dubp_replay.specs.declared.command.Command.TheVariants.{Revert}
use Rattle.dubp_replay.specs.Turns.{State}
use Rattle.dubp_choosing.specs.States.{state_with}
use Rattle.dubp_choosing.proofs.Turns.{held_same}
use Rattle.dubp_turns.specs.Acting.{Acts}
use Rattle.dubp_turns.proofs.Turns.{acts_aside}
use Rattle.dubp_turns.proofs.node.Node.revert.Goals as goal

pub invariant_of-self : goal.invariant_of-self
invariant_of-self g c = held_same c.self.inside.branches.store c.revert.new.self.store c.self.inside.failures.items c.self.invariant c.revert.ensures.store

pub returns : goal.returns
returns g c = λ frame.
    let s = c.self.inside in
    let old = state_with s.pool s.branches s.auto s.failures.items in
    subst (λ (x : State). Acts x (Revert c.args.count) frame (c.revert.new.line.items) (state_with s.pool c.revert.new.self s.auto s.failures.items)) c.self.view_is
    (acts_aside old (Revert c.args.count) frame (c.revert.new.line.items) c.revert.new.self tt c.self.invariant c.revert.ensures.store (c.revert.ensures.acts frame))
