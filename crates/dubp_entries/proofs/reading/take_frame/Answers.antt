use Rattle.std.proofs.Common.{arith, sym, subst, take}
use Rattle.dubp_entries.specs.Entries.{HeadsFrame}
use Rattle.dubp_entries.proofs.Wholes.{framed_heads}
use Rattle.dubp_entries.proofs.Taking.{frame_gets_long}
use Rattle.dubp_entries.proofs.reading.take_frame.Goals as goal

pub returns-then-len : goal.returns-then-len
returns-then-len c =
    let line = take c.args.end c.args.hand.now in
    let head : HeadsFrame line c.len-len.result = subst (HeadsFrame line) (sym c.len-len.ensures) (framed_heads line c.args.framed c.requires.head) in
    (omega arith, omega arith, λ bytes e. frame_gets_long c.args.hand.now bytes c.args.end c.len-len.result c.requires.line.0 c.requires.line.1 head (omega arith) e)
