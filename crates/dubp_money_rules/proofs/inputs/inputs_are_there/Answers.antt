use Rattle.std.proofs.Common.{◌↔◌, IsTrue}
use Rattle.dubp_money_rules.specs.Spending.{EachAt, AreThere}
use Rattle.dubp_money_rules.proofs.Told.{at_time}
use Rattle.dubp_money_rules.proofs.inputs.inputs_are_there.Goals as goal

pub returns : goal.returns
returns c = λ ch at asked numbered.
    let b = c.args.block.now in
    at_time ch b c.args.next.now asked (λ t. IsTrue c.all_are_there.result ↔ EachAt t ch b AreThere b.transactions) (c.all_are_there.ensures ch at asked.sound numbered)
