use Rattle.std.proofs.Common.{◌≡◌, ◌++◌, ◌==◌, not, map, filter, take}
use Rattle.dubp_drafts.proofs.people.put_by_all_others.Given as goal

abbrev pub invariant-loop-other : goal.invariant-loop-other
invariant-loop-other l =
    l.pairs.items ≡ l.fn.pairs.items ++ map (λ j. (l.person, j)) (filter (λ j. not (l.person == j)) (take l.other-index l.other-items))
