use Rattle.dubp_moves.proofs.Numbers.{balances_are_small}
use Rattle.dubp_moves.proofs.laws.balances_are_numbers.Goals as goal

pub returns : goal.returns
returns c = λ d text sound. balances_are_small d text sound
