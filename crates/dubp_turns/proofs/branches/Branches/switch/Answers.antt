use Rattle.dubp_turns.proofs.Stored.{switched_acts}
use Rattle.dubp_turns.proofs.branches.Branches.switch.Goals as goal

pub returns : goal.returns
returns g c = λ frame bytes handed.
    switched_acts c.args.self.now c.switch_to-outcome.new.self c.args.stamp bytes (c.put_switch.new.line.items) c.switch_to-outcome.result c.switch_to-outcome.ensures c.put_switch.ensures
