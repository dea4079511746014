use Rattle.dubp_cond.specs.Unlocks.{unlock_line_text, IsUnlockLine}
use Rattle.dubp_cond.specs.ReadingLines.{unlock_line_of}
use Rattle.dubp_cond.proofs.Unlocks.{unlock_line_found, unlock_line_again}
use Rattle.dubp_cond.proofs.Exact.{is_found_ok, is_only_ok, is_lacked}
use Rattle.dubp_cond.proofs.unlock.read_unlock.Goals as goal

pub returns-clause-found : goal.returns-clause-found
returns-clause-found c = is_found_ok unlock_line_of unlock_line_text IsUnlockLine unlock_line_found c.args.line.now c.read_line.result c.read_line.ensures.exact

pub returns-clause-only : goal.returns-clause-only
returns-clause-only c = is_only_ok unlock_line_of unlock_line_text IsUnlockLine unlock_line_again c.args.line.now c.read_line.result c.read_line.ensures.exact

pub returns-clause-lacked : goal.returns-clause-lacked
returns-clause-lacked c = is_lacked unlock_line_of unlock_line_text IsUnlockLine unlock_line_found c.args.line.now c.read_line.result c.read_line.ensures.lacked
