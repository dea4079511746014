use Rattle.std.proofs.Common.{ap, ◌∙◌}
use Rattle.dubp_script.specs.Reading.{command_of}
use Rattle.dubp_script.proofs.Commands.{command_is_found, command_again}
use Rattle.dubp_script.proofs.reading.read_command.Goals as goal

pub returns-clause-found : goal.returns-clause-found
returns-clause-found c = command_is_found c.args.line.now c.command.result c.command.ensures

pub returns-clause-only : goal.returns-clause-only
returns-clause-only c = λ d is e. c.command.ensures ∙ ap command_of e ∙ command_again d is
