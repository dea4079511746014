use Rattle.std.proofs.Common.{◌∙◌, sym, subst}
use Rattle.std.specs.Prelude.{IfSome}
use Rattle.dubp_script.specs.Framed.{framed_command}
use Rattle.dubp_script.specs.Spelling.{Says}
use Rattle.dubp_script.proofs.FramedLines.{framed_found, framed_again}
use Rattle.dubp_script.proofs.framed.read_framed.Goals as goal

pub returns-clause-found : goal.returns-clause-found
returns-clause-found c = subst (λ o. IfSome o (λ f. Says c.args.line.now (framed_command f))) (sym c.head_of.ensures) (framed_found c.args.line.now)

pub returns-clause-only : goal.returns-clause-only
returns-clause-only c = λ f says. c.head_of.ensures ∙ framed_again c.args.line.now f says
