use Rattle.dubp_block.proofs.Added.{lines_then}
use Rattle.dubp_block.proofs.writing.add_previous.Goals as goal

pub returns-in_ok-add_field-in-Some-2 : goal.returns-in_ok-add_field-in-Some-2
returns-in_ok-add_field-in-Some-2 g c = rw c.in-Some.is (lines_then c.in_ok-add_field-in-Some.ensures c.in_ok-add_field-in-Some-2.ensures)
