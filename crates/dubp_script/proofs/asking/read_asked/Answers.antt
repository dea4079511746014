use Rattle.std.proofs.Common.{ap, ◌∙◌}
use Rattle.dubp_script.specs.Reading.{one_line_of}
use Rattle.dubp_script.proofs.OneLine.{asked_found, asked_again}
use Rattle.dubp_script.proofs.asking.read_asked.Goals as goal

pub returns-clause-found : goal.returns-clause-found
returns-clause-found c = asked_found c.args.line.now c.one_line.result c.one_line.ensures.is

pub returns-clause-only : goal.returns-clause-only
returns-clause-only c = λ q one is e. c.one_line.ensures.is ∙ ap one_line_of e ∙ asked_again q one is
