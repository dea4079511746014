use Rattle.std.proofs.Common.{map, ap, ◌++◌, ◌∙◌, arith}
use Rattle.dubp_money_steps.specs.Clearing.{clear_record}
use Rattle.dubp_money.proofs.Applies.{hashes_few}
use Rattle.dubp_money.proofs.money.Money.write.Goals as goal

pub returns-clause-at : goal.returns-clause-at
returns-clause-at g c = λ chain applied are at. c.in_ok-taken.ensures.at chain applied are (c.totals_so_far-before.ensures chain at) at.0 at.1 at.2

pub returns-clause-steps : goal.returns-clause-steps
returns-clause-steps g c = λ chain applied are at.
    let few = hashes_few chain c.args.block.now c.args.head.now applied c.args.hashes.now c.requires.hashes in
    let all = c.in_ok-taken.ensures.steps chain applied are (c.totals_so_far-before.ensures chain at) at.0 in
    omega (arith, few, all)

pub returns-in_err-taken-clause-stays : goal.returns-in_err-taken-clause-stays
returns-in_err-taken-clause-stays g c = λ n chain is. (c.write_all.ensures.stays n.0 chain is.0, is.1, is.2)

pub returns-in_err-put_clears-clause-stays : goal.returns-in_err-put_clears-clause-stays
returns-in_err-put_clears-clause-stays g c = λ n chain is. (c.write_all.ensures.stays n.0 chain is.0, is.1, is.2)

pub returns-clause-stays : goal.returns-clause-stays
returns-clause-stays g c = λ n chain is. (c.write_all.ensures.stays n.0 chain is.0, is.1, is.2)

pub returns-clause-cleared : goal.returns-clause-cleared
returns-clause-cleared g c = λ chain applied are at.
    c.in_ok-put_clears.ensures.appended
    ∙ ap (λ l. l ++ map clear_record c.as_slice.result.now) c.new-cleared.ensures.items
    ∙ ap (map clear_record) c.as_slice.ensures.value
    ∙ c.in_ok-taken.ensures.taken chain applied are (c.totals_so_far-before.ensures chain at) at.0
