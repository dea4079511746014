use Rattle.std.proofs.Common.{ap, ◌∙◌}
use Rattle.dubp_atoms.specs.Reading.{number_of}
use Rattle.dubp_atoms.proofs.Numbers.{is_found, number_again}
use Rattle.dubp_atoms.proofs.number.read_number.Goals as goal

pub returns-clause-found : goal.returns-clause-found
returns-clause-found c = is_found c.args.text.now c.number.result c.number.ensures

pub returns-clause-only : goal.returns-clause-only
returns-clause-only c = λ n lt e. c.number.ensures ∙ ap number_of e ∙ number_again n lt
