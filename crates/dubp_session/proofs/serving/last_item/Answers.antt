use Rattle.dubp_script.specs.Framed.{framed_len}
use Rattle.dubp_entries.proofs.Wholes.{framed_heads}
use Rattle.dubp_session.proofs.serving.last_item.Goals as goal

pub returns-in-Some : goal.returns-in-Some
returns-in-Some c = (framed_len c.in-Some.field-0, framed_heads c.args.line.now c.in-Some.field-0 c.in-Some.ensures)
