use Rattle.std.proofs.Common.{ap, ◌∙◌}
use Rattle.dubp_atoms.specs.Reading.{stamp_of}
use Rattle.dubp_atoms.proofs.Stamps.{stamp_is_found, stamp_again}
use Rattle.dubp_atoms.proofs.stamp.Stamp.read.Goals as goal

pub returns-clause-found : goal.returns-clause-found
returns-clause-found c = stamp_is_found c.args.text.now c.read_stamp.result c.read_stamp.ensures

pub returns-clause-only : goal.returns-clause-only
returns-clause-only c = λ s is e. c.read_stamp.ensures ∙ ap stamp_of e ∙ stamp_again s is
