use Rattle.dubp_block.proofs.Added.{lines_then}
use Rattle.dubp_block.proofs.writing.add_opening.Goals as goal

pub returns : goal.returns
returns g c = lines_then c.in_ok-add_number.ensures (lines_then c.in_ok-add_line.ensures (lines_then c.in_ok-add_field.ensures (lines_then c.in_ok-add_number-2.ensures (lines_then c.in_ok-add_number-3.ensures (lines_then c.in_ok-add_number-4.ensures c.in_ok-add_number-5.ensures)))))
