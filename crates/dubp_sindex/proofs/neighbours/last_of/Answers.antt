use Rattle.std.proofs.Common.{sym, ◌∙◌}
use Rattle.dubp_sindex.proofs.Walking.{last_link}
use Rattle.dubp_sindex.proofs.neighbours.last_of.Goals as goal

pub returns-in-Some : goal.returns-in-Some
returns-in-Some c = λ account rows are is. c.to.ensures ∙ last_link rows are account c.in-Some.balance (sym is ∙ c.in-Some.is)
