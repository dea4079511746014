use Rattle.std.proofs.Common.{ap, ◌∙◌}
use Rattle.dubp_moving.specs.States.{states}
use Rattle.dubp_sindex.specs.Accounts.{accounts}
use Rattle.dubp_money.specs.OfMoneySteps.{sources_left}
use Rattle.dubp_money_rules.specs.Spending.{time_of_row}
use Rattle.dubp_money_rules.proofs.Found.{time_left}
use Rattle.dubp_money_rules.proofs.spending.time_of_source.Goals as goal

pub returns : goal.returns
returns c = λ ch at sound.
    let texts = accounts c.args.sources.now.index in
    c.time_in_row.ensures ∙ ap (time_of_row c.args.input.now) (c.unspent-row.ensures (states (sources_left texts) ch) at.1) ∙ time_left texts ch sound c.args.input.now
