use Rattle.dubp_moves.proofs.Whole.{account-is-moves}
use Rattle.dubp_moves.proofs.laws.accounts_have_the_moves.Goals as goal

pub returns : goal.returns
returns c = λ d text sound. account-is-moves text d sound
