use Rattle.dubp_pow.proofs.Moves.{next_frame_of-least, next_frame_of-most}
use Rattle.dubp_pow.proofs.laws.frame_stays_in_range.Goals as goal

pub returns-clause-least : goal.returns-clause-least
returns-clause-least c = next_frame_of-least

pub returns-clause-most : goal.returns-clause-most
returns-clause-most c = next_frame_of-most
