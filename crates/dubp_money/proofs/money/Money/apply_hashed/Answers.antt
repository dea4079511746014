use Rattle.std.proofs.Common.{ap, ◌++◌, ◌∙◌}
use Rattle.dubp_money.proofs.money.Money.apply_hashed.Goals as goal

pub returns-clause-records : goal.returns-clause-records
returns-clause-records g c = λ chain applied are at.
    c.in_ok-append.ensures.appended ∙ ap (λ l. c.args.out.now.items ++ l) (c.in_ok-records.ensures chain applied are (c.in_ok-cleared.ensures.cleared chain applied are at))
