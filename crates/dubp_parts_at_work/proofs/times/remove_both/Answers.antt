-- What stands in the list is among the times of the window, and leaves both.
use Rattle.std.proofs.Common.{◌<◌, sym, subst}
use Rattle.std.proofs.lemmas.List.Sorted.{IsPermutation-remove}
use Rattle.dubp_time.specs.Median.{count_of}
use Rattle.dubp_time.proofs.MedianLaws.{SameTimes_permutation, SameTimes_sym, SameTimes_tail, SameTimes_trans, stands_at}
use Rattle.dubp_parts_at_work.proofs.times.remove_both.Goals as goal

pub remove-requires : goal.remove-requires
remove-requires c =
    let items = c.args.times.now.items in
    let t = c.remove-t.result in
    let among = subst (λ s. 0 < count_of s items) (sym c.remove-t.ensures.value) (stands_at items c.args.place t c.requires.within) in
    subst (λ n. 0 < n) (sym (c.requires.same.each t)) among

pub returns-clause-same : goal.returns-clause-same
returns-clause-same c =
    let items = c.args.times.now.items in
    let left = SameTimes_permutation _ _ (IsPermutation-remove items c.args.place c.remove-t.result c.requires.within c.remove-t.ensures.value) in
    rw c.remove-t.ensures.items (SameTimes_tail c.remove-t.result _ _ (SameTimes_trans _ _ _ (SameTimes_sym _ _ c.remove.ensures.times) (SameTimes_trans _ _ _ c.requires.same left)))
