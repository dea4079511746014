-- Times below t stand before the others, so the halving finds the place between the two.
use Rattle.std.proofs.Common.{nat_lt, ltb-true, arith, rules}
use Rattle.std.proofs.lemmas.Bool.{ltb-false}
use Rattle.std.proofs.lemmas.List.Sorted.{IsPartitionPoint-from_clause, IsPartitionedBy-ltb}
use Rattle.dubp_time.proofs.Places.{bound_stands}
use Rattle.dubp_time.proofs.window.lower_bound.Goals as goal

pub returns-clause-below : goal.returns-clause-below
returns-clause-below c =
    let part = IsPartitionPoint-from_clause (λ y. nat_lt y c.args.t) c.args.rising.now c.partition_point.result c.partition_point.ensures.partitioned (IsPartitionedBy-ltb (λ y. y) _ c.args.t c.requires) (λ a r q k. search rules) in
    λ k lt. ltb-true _ _ (part.0 k 0 (omega arith) lt)

pub returns-clause-from : goal.returns-clause-from
returns-clause-from c =
    let part = IsPartitionPoint-from_clause (λ y. nat_lt y c.args.t) c.args.rising.now c.partition_point.result c.partition_point.ensures.partitioned (IsPartitionedBy-ltb (λ y. y) _ c.args.t c.requires) (λ a r q k. search rules) in
    λ k le lt. ltb-false _ _ (part.1 k 0 le lt)

pub returns-clause-found : goal.returns-clause-found
returns-clause-found c =
    bound_stands c.args.rising.now c.args.t c.partition_point.result c.requires (returns-clause-below c) (returns-clause-from c)
