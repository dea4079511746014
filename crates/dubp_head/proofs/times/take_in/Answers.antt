use Rattle.std.proofs.Common.{◌++◌, subst, sym}
use Rattle.std.specs.Option.{option_to_list}
use Rattle.dubp_time.specs.Median.{SameTimes}
use Rattle.dubp_head.proofs.LastTimes.{SameTimes-more}
use Rattle.dubp_head.proofs.times.take_in.Goals as goal

pub returns-in-Some-clause-times : goal.returns-in-Some-clause-times
returns-in-Some-clause-times c others was =
    subst (λ o. SameTimes c.insert.new.self.times (option_to_list o ++ others)) (sym c.in-Some.is) (SameTimes-more _ _ _ _ c.insert.ensures.times was)
