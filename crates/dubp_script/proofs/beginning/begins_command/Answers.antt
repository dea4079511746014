use Rattle.std.proofs.Common.{sym, ◌∙◌}
use Rattle.dubp_script.proofs.Begun.{not_begun}
use Rattle.dubp_script.proofs.beginning.begins_command.Goals as goal

pub returns-clause-none : goal.returns-clause-none
returns-clause-none c = λ lacks. not_begun c.args.line.now (sym c.begins.ensures ∙ lacks)
