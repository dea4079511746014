use Rattle.std.proofs.Common.{◌↔◌, IsTrue}
use Rattle.dubp_money_rules.specs.Spending.{EachAt, HaveEnded}
use Rattle.dubp_money_rules.proofs.Told.{at_time}
use Rattle.dubp_money_rules.proofs.inputs.locktimes_have_ended.Goals as goal

pub returns : goal.returns
returns c = λ ch at asked numbered.
    let b = c.args.block.now in
    at_time ch b c.args.next.now asked (λ t. IsTrue c.all_have_ended.result ↔ EachAt t ch b (HaveEnded t) b.transactions) (c.all_have_ended.ensures ch at asked.sound numbered)
