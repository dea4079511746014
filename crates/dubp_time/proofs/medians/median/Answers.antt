-- Sorting puts the times into rising order and keeps them the same.
use Rattle.std.proofs.Common.{sym, ◌∙◌, ap}
use Rattle.std.proofs.lemmas.List.Sorted.{IsNonDecreasingBy-from_sort}
use Rattle.dubp_time.specs.Median.{median_of}
use Rattle.dubp_time.proofs.MedianLaws.{median_of_permutation}
use Rattle.dubp_time.proofs.medians.median.Goals as goal

pub middle_of-requires : goal.middle_of-requires
middle_of-requires c =
    rw c.as_slice.ensures.value (IsNonDecreasingBy-from_sort (λ t. t) _ c.sort_unstable.ensures.sorted)

pub returns : goal.returns
returns c =
    c.middle_of.ensures ∙ ap median_of c.as_slice.ensures.value ∙ sym (median_of_permutation _ _ c.sort_unstable.ensures.permutation) ∙ ap median_of c.in_ok-rising.ensures
