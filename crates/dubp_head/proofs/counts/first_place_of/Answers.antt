-- Greater numbers stand before the others, so the halving finds the first place.
use Rattle.std.proofs.Common.{nat_lt, rules}
use Rattle.std.proofs.lemmas.List.Sorted.{IsPartitionPoint-from_clause}
use Rattle.dubp_head.proofs.Ranking.{falling_parted, first_found}
use Rattle.dubp_head.proofs.counts.first_place_of.Goals as goal

pub returns : goal.returns
returns c =
    let part = IsPartitionPoint-from_clause (λ y. nat_lt c.args.count y) c.args.ranked.now c.partition_point.result c.partition_point.ensures.partitioned (falling_parted c.args.ranked.now c.args.count c.requires.falling) (λ a r q k. search rules) in
    first_found c.args.ranked.now c.args.count c.partition_point.result c.requires.falling c.requires.there c.partition_point.ensures.bound part
