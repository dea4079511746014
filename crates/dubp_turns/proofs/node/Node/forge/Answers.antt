use Rattle.std.proofs.Common.{subst}
use Rattle.dubp_replay.specs.declared.command.Command.TheVariants.{Forge}
use Rattle.dubp_replay.specs.Turns.{State}
use Rattle.dubp_choosing.specs.States.{state_with}
use Rattle.dubp_turns.specs.Acting.{Acts}
use Rattle.dubp_turns.specs.Told.{told_text}
use Rattle.dubp_turns.proofs.Pending.{forge_acts}
use Rattle.dubp_turns.proofs.node.Node.forge.Goals as goal

pub returns : goal.returns
returns g c = λ frame.
    let s = c.self.inside in
    subst (λ (x : State). Acts x (Forge c.args.key c.args.time) frame (told_text c.forge_on.new.line.items c.forge_on.result) x) c.self.view_is
    (forge_acts (state_with s.pool s.branches s.auto s.failures.items) c.args.key c.args.time frame (told_text c.forge_on.new.line.items c.forge_on.result) c.forge_on.ensures)
