use Rattle.std.proofs.Common.{ap, ◌∙◌}
use Rattle.dubp_atoms.specs.Reading.{signed_of}
use Rattle.dubp_atoms.proofs.Signed.{signed_is_found, signed_again}
use Rattle.dubp_atoms.proofs.number.read_signed.Goals as goal

pub returns-clause-found : goal.returns-clause-found
returns-clause-found c = signed_is_found c.args.text.now c.signed.result c.signed.ensures

pub returns-clause-only : goal.returns-clause-only
returns-clause-only c = λ z is e. c.signed.ensures ∙ ap signed_of e ∙ signed_again z is
