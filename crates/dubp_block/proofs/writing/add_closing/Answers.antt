use Rattle.dubp_block.proofs.Added.{lines_then}
use Rattle.dubp_block.proofs.writing.add_closing.Goals as goal

pub returns : goal.returns
returns g c = lines_then c.in_ok-add_field.ensures (lines_then c.in_ok-add_number.ensures c.in_ok-add_field-2.ensures)
