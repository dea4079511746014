use Rattle.dubp_entries.proofs.Wholes.{framed_or_none}
use Rattle.dubp_entries.proofs.reading.frame_head.Goals as goal

pub returns : goal.returns
returns c = framed_or_none c.args.line.now c.read_framed.result c.read_framed.ensures.found c.read_framed.ensures.only
