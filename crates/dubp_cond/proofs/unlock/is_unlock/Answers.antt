use Rattle.dubp_cond.specs.Unlocks.{unlock_line_text, IsUnlockLine}
use Rattle.dubp_cond.specs.ReadingLines.{unlock_line_of}
use Rattle.dubp_cond.proofs.Unlocks.{unlock_line_found, unlock_line_again}
use Rattle.dubp_cond.proofs.Exact.{is_told}
use Rattle.dubp_cond.proofs.unlock.is_unlock.Goals as goal

pub returns-clause-text : goal.returns-clause-text
returns-clause-text c = is_told unlock_line_of unlock_line_text IsUnlockLine unlock_line_found unlock_line_again c.args.line.now c.pass_line.result c.pass_line.ensures
