use Rattle.std.proofs.Common.{refl, subst}
use Rattle.dubp_replay.specs.declared.command.Command.TheVariants.{Statement}
use Rattle.dubp_replay.specs.Turns.{State}
use Rattle.dubp_choosing.specs.States.{state_with}
use Rattle.dubp_turns.specs.Acting.{Acts}
use Rattle.dubp_turns.specs.Told.{told_text}
use Rattle.dubp_turns.proofs.Turns.{acts_aside}
use Rattle.dubp_turns.proofs.node.Node.statement.Goals as goal

pub returns : goal.returns
returns g c = λ frame.
    let s = c.self.inside in
    let old = state_with s.pool s.branches s.auto s.failures.items in
    subst (λ (x : State). Acts x (Statement c.args.cond.now) frame (told_text c.statement.new.line.items c.statement.result) x) c.self.view_is
    (acts_aside old (Statement c.args.cond.now) frame (told_text c.statement.new.line.items c.statement.result) s.branches tt c.self.invariant refl (c.statement.ensures frame))
