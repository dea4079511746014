use Rattle.std.proofs.Common.{[], ◌∷◌}
use Rattle.dubp_money.proofs.spending.spend_source.Goals as goal

pub returns-clause-at : goal.returns-clause-at
returns-clause-at g c = λ rows are has. c.in_ok-spend.ensures.at (rows ∷ []) [] has are
