use Rattle.std.proofs.Common.{◌↔◌, IsTrue}
use Rattle.std.specs.List.{AllByRecursion}
use Rattle.dubp_chain.specs.Made.{made}
use Rattle.dubp_validity.specs.PeopleRules.{IsInWindow}
use Rattle.dubp_validity.specs.MoneyRules.{tx_window}
use Rattle.dubp_money_rules.proofs.Told.{at_time}
use Rattle.dubp_money_rules.proofs.times.transactions_are_in_time.Goals as goal

pub returns : goal.returns
returns c = λ ch at asked.
    let b = c.args.block.now in
    at_time ch b c.args.next.now asked (λ t. IsTrue c.are_in_time.result ↔ AllByRecursion (λ tx. IsInWindow t tx_window (made ch b tx.stamp)) b.transactions)
    (rw c.as_slice.ensures at (c.are_in_time.ensures ch at asked.sound))
