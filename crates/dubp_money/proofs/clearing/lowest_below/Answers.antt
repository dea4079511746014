use Rattle.std.proofs.Common.{◌∷◌, []}
use Rattle.dubp_money.proofs.Clears.{below_found, below_none, none_enough}
use Rattle.dubp_money.proofs.clearing.lowest_below.Goals as goal

pub returns-in-Some-clause-found : goal.returns-in-Some-clause-found
returns-in-Some-clause-found c = λ rows has. below_found c.args.limit rows c.in-Some.lowest (c.in-Some.ensures.found (rows ∷ []) has) c.account_below.result c.account_below.ensures.found

pub returns-in-Some-clause-none : goal.returns-in-Some-clause-none
returns-in-Some-clause-none c = λ rows has. below_none c.args.limit rows c.in-Some.lowest (c.in-Some.ensures.found (rows ∷ []) has) c.account_below.result c.account_below.ensures.none

pub returns-in-None-clause-none : goal.returns-in-None-clause-none
returns-in-None-clause-none c = λ rows has. none_enough c.args.limit rows (c.in-None.ensures.none (rows ∷ []) has)
