use Rattle.dubp_docs.proofs.Added.{lines_then}
use Rattle.dubp_docs.proofs.signing.add_identity.Goals as goal

pub returns : goal.returns
returns g c = lines_then c.in_ok-add_opening.ensures (lines_then c.in_ok-add_field.ensures (lines_then c.in_ok-add_field-2.ensures c.in_ok-add_value.ensures))
