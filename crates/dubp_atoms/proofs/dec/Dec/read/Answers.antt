use Rattle.std.proofs.Common.{ap, ◌∙◌}
use Rattle.dubp_atoms.specs.Reading.{dec_of}
use Rattle.dubp_atoms.proofs.Decs.{dec_is_found, dec_again}
use Rattle.dubp_atoms.proofs.dec.Dec.read.Goals as goal

pub returns-clause-found : goal.returns-clause-found
returns-clause-found c = dec_is_found c.args.text.now c.read_dec.result c.read_dec.ensures

pub returns-clause-only : goal.returns-clause-only
returns-clause-only c = λ d is e. c.read_dec.ensures ∙ ap dec_of e ∙ dec_again d is
