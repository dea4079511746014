-- Numbers at least as great stand before the others, so the halving finds the place behind the last.
use Rattle.std.proofs.Common.{nat_le, rules}
use Rattle.std.proofs.lemmas.List.Sorted.{IsPartitionPoint-from_clause}
use Rattle.dubp_head.proofs.Ranking.{falling_parted_le, last_found}
use Rattle.dubp_head.proofs.counts.last_place_of.Goals as goal

pub overflow_sub-result : goal.overflow_sub-result
overflow_sub-result c =
    let part = IsPartitionPoint-from_clause (λ y. nat_le c.args.count y) c.args.ranked.now c.partition_point.result c.partition_point.ensures.partitioned (falling_parted_le c.args.ranked.now c.args.count c.requires.falling) (λ a r q k. search rules) in
    (last_found c.args.ranked.now c.args.count c.partition_point.result c.requires.falling c.requires.there c.partition_point.ensures.bound part).0

pub returns : goal.returns
returns c =
    let part = IsPartitionPoint-from_clause (λ y. nat_le c.args.count y) c.args.ranked.now c.partition_point.result c.partition_point.ensures.partitioned (falling_parted_le c.args.ranked.now c.args.count c.requires.falling) (λ a r q k. search rules) in
    (last_found c.args.ranked.now c.args.count c.partition_point.result c.requires.falling c.requires.there c.partition_point.ensures.bound part).1
