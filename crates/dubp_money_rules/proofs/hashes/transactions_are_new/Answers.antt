use Rattle.dubp_money_rules.proofs.Told.{some_is_old, all_are_new}
use Rattle.dubp_money_rules.proofs.hashes.transactions_are_new.Goals as goal

pub returns-then-not-are_new : goal.returns-then-not-are_new
returns-then-not-are_new g c = λ ch b at of_block.
    some_is_old ch b c.args.hashes.now of_block c.are_new.result (c.are_new.ensures ch at) c.if-not-are_new.true

pub returns : goal.returns
returns g c = λ ch b at of_block.
    all_are_new ch b c.args.hashes.now of_block c.are_new.result _ (c.are_new.ensures ch at) c.if-not-are_new.false c.in_ok-once.ensures
