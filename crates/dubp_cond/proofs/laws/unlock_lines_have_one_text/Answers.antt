use Rattle.dubp_cond.specs.Unlocks.{unlock_line_text, IsUnlockLine}
use Rattle.dubp_cond.specs.ReadingLines.{unlock_line_of}
use Rattle.dubp_cond.proofs.Exact.{one_text}
use Rattle.dubp_cond.proofs.Unlocks.{unlock_line_again}
use Rattle.dubp_cond.proofs.laws.unlock_lines_have_one_text.Goals as goal

pub returns : goal.returns
returns c = one_text unlock_line_of unlock_line_text IsUnlockLine unlock_line_again
