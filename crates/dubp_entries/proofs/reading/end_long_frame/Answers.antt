use Rattle.std.proofs.Common.{arith}
use Rattle.dubp_entries.proofs.Taking.{long_frame_waits, long_frame_passes, long_frame_ends}
use Rattle.dubp_entries.proofs.reading.end_long_frame.Goals as goal

pub returns-then-len-eq0 : goal.returns-then-len-eq0
returns-then-len-eq0 c = (omega arith, λ bytes f. long_frame_waits c.args.left c.args.hand.now bytes (omega arith) f)

pub returns-then-left-eq0 : goal.returns-then-left-eq0
returns-then-left-eq0 c = (omega arith, omega arith, λ bytes f. absurd (omega (arith, f.some)))

pub returns-then-len-left : goal.returns-then-len-left
returns-then-len-left c = (omega arith, omega arith, λ bytes f. long_frame_passes c.args.left c.args.hand.now bytes (omega arith) f)

pub returns : goal.returns
returns c = (omega arith, omega arith, λ bytes f. long_frame_ends c.args.left c.args.hand.now bytes (omega arith) f)
