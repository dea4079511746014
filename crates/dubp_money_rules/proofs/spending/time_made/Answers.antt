use Rattle.std.proofs.Common.{ap, ◌∙◌}
use Rattle.dubp_money_rules.specs.Spending.{time_of_output, output_named}
use Rattle.dubp_money_rules.proofs.Made.{time_named}
use Rattle.dubp_money_rules.proofs.spending.time_made.Goals as goal

pub returns : goal.returns
returns c = λ numbered.
    let keys = c.args.numbers.now.keys in
    let input = c.args.input.now in
    c.time_in_output.ensures
    ∙ ap (time_of_output c.args.time input) (c.output_named-output.ensures ∙ ap (λ txs. output_named keys txs c.args.number input.source) c.as_slice.ensures)
    ∙ time_named c.args.time c.args.block.now c.args.number input keys numbered
