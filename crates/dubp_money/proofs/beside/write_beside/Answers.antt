use Rattle.std.proofs.Common.{◌∙◌, Some, ap}
use Rattle.dubp_money.proofs.beside.write_beside.Goals as goal

pub returns-clause-at : goal.returns-clause-at
returns-clause-at g c = λ chain b are totals at. (c.in_ok-write_hashes.ensures.at chain b are at.0, λ k. c.in_ok-set.ensures.now k ∙ ap Some totals)
