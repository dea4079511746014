use Rattle.std.proofs.Common.{◌++◌, subst}
use Rattle.std.specs.Option.{option_to_list}
use Rattle.dubp_time.specs.Median.{SameTimes}
use Rattle.dubp_head.proofs.LastTimes.{SameTimes-less}
use Rattle.dubp_head.proofs.times.take_out.Goals as goal

pub returns-in-Some-clause-times : goal.returns-in-Some-clause-times
returns-in-Some-clause-times c others was =
    SameTimes-less _ _ _ _ c.remove.ensures.times (subst (λ o. SameTimes c.args.window.now.times (option_to_list o ++ others)) c.in-Some.is was)
