use Rattle.std.proofs.Common.{arith}
use Rattle.dubp_entries.proofs.Taking.{long_line_waits, long_line_passes, long_line_ends}
use Rattle.dubp_entries.proofs.reading.end_long_line.Goals as goal

pub returns-in-Some : goal.returns-in-Some
returns-in-Some c =
    let l = c.in-Some.ensures in
    (omega arith, omega (arith, l.0), λ bytes f. long_line_ends c.args.hand.now bytes c.in-Some.end l.1 l.2 f)

pub returns-in-None : goal.returns-in-None
returns-in-None c = (grind arith, λ bytes f. long_line_waits c.args.hand.now bytes c.in-None.ensures f)

pub returns-in-None-2 : goal.returns-in-None-2
returns-in-None-2 c = (grind arith, omega arith, λ bytes f. long_line_passes c.args.hand.now bytes c.in-None-2.ensures f)
