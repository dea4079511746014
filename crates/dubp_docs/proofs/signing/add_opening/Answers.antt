use Rattle.dubp_docs.proofs.Added.{lines_then}
use Rattle.dubp_docs.proofs.signing.add_opening.Goals as goal

pub returns : goal.returns
returns g c = lines_then c.in_ok-add_line.ensures (lines_then c.in_ok-add_kind.ensures c.in_ok-add_field.ensures)
