-- The laws are those of `proofs/MedianLaws.antt`.
use Rattle.dubp_time.proofs.MedianLaws.{median_of_permutation, median_of_same, median_of_rising}
use Rattle.dubp_time.proofs.medians.median_laws.Goals as goal

pub returns-clause-any_order : goal.returns-clause-any_order
returns-clause-any_order c = median_of_permutation

pub returns-clause-same_times : goal.returns-clause-same_times
returns-clause-same_times c = median_of_same

pub returns-clause-rising : goal.returns-clause-rising
returns-clause-rising c = median_of_rising
