use Rattle.std.proofs.Common.{rules}
use Rattle.std.proofs.lemmas.List.Sorted.{IsNonDecreasingBy-from_sort_by_key}
use Rattle.dubp_resolve.specs.declared.view.Offered.{Offered}
use Rattle.dubp_resolve.proofs.standing.sorted.Goals as goal

pub returns-in-Ok-sort_by_key-clause-ascending : goal.returns-in-Ok-sort_by_key-clause-ascending
returns-in-Ok-sort_by_key-clause-ascending c =
    IsNonDecreasingBy-from_sort_by_key (λ (b : Offered). b.stamp.number) _ c.in-Ok-sort_by_key.ensures.sorted (λ a r q k. search rules)
