use Rattle.std.proofs.Common.{subst}
use Rattle.dubp_replay.specs.declared.command.Command.TheVariants.{Block}
use Rattle.dubp_replay.specs.Turns.{State}
use Rattle.dubp_choosing.specs.States.{state_with}
use Rattle.dubp_turns.specs.Acting.{Acts}
use Rattle.dubp_turns.proofs.Turns.{acts_on, held_left}
use Rattle.dubp_turns.proofs.node.Node.act_block.Goals as goal

pub invariant_of-self : goal.invariant_of-self
invariant_of-self g c = held_left c.act_block.new.self.store c.self.inside.failures.items c.let_go.new.failures.items c.let_go.ensures

pub returns : goal.returns
returns g c =
    let s = c.self.inside in
    let old = state_with s.pool s.branches s.auto s.failures.items in
    subst (λ (x : State). Acts x (Block c.args.len) c.args.frame.now (c.act_block.new.line.items) (state_with s.pool c.act_block.new.self s.auto c.let_go.new.failures.items)) c.self.view_is
    (acts_on old (Block c.args.len) c.args.frame.now (c.act_block.new.line.items) c.act_block.new.self c.let_go.new.failures.items tt c.self.invariant c.let_go.ensures c.act_block.ensures)
