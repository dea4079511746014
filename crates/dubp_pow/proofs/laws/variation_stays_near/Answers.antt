use Rattle.dubp_pow.proofs.Moves.{next_var_of-least, next_var_of-most}
use Rattle.dubp_pow.proofs.laws.variation_stays_near.Goals as goal

pub returns-clause-least : goal.returns-clause-least
returns-clause-least c = next_var_of-least

pub returns-clause-most : goal.returns-clause-most
returns-clause-most c = next_var_of-most
