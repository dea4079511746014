-- Where a time is put does not matter.
use Rattle.std.proofs.Common.{arith}
use Rattle.dubp_time.proofs.MedianLaws.{SameTimes_cons, SameTimes_last, SameTimes_length, SameTimes_sym, SameTimes_trans}
use Rattle.dubp_parts_at_work.proofs.times.insert_both.Goals as goal

pub insert-requires : goal.insert-requires
insert-requires c = omega (arith, SameTimes_length _ _ c.requires.same)

pub returns-clause-same : goal.returns-clause-same
returns-clause-same c =
    rw c.in_ok-push.ensures.items (SameTimes_trans _ _ _ c.insert.ensures.times (SameTimes_trans _ _ _ (SameTimes_cons _ _ _ c.requires.same) (SameTimes_sym _ _ (SameTimes_last c.args.times.now.items c.args.t))))
