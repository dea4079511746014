use Rattle.std.proofs.Common.{◌^◌, ◌*◌, ◌-◌, min, ap, ◌∙◌}
use Rattle.dubp_statement.proofs.Sums.{product_within}
use Rattle.dubp_statement.proofs.tally.units.Goals as goal

pub returns : goal.returns
returns c = c.saturating_mul.ensures ∙ ap (λ n. min (c.args.amount * n) (2 ^ 128 - 1)) c.saturating_pow.ensures ∙ product_within c.args.amount (10 ^ c.args.base) (2 ^ 128 - 1)
