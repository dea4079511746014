-- The order of sources, by which they are keys of maps. Protocol: sources.
use Rattle.std.specs.Cmp.Lexicographic.{slice_cmp}
use Rattle.std.specs.Ordering.{nat_cmp, ordering_then}
use Rattle.std.specs.declared.cmp.Ordering.{Ordering}
use Rattle.std.specs.declared.cmp.Ordering.TheVariants.{Less, Greater}
use Rattle.dubp_cond.specs.declared.source.SourceId.{SourceId}
use Rattle.dubp_cond.specs.declared.source.SourceId.TheVariants.{D, T}
use Rattle.dubp_cond.specs.contracts.source.SourceIdOrd.TheImpl as derived

-- dividends before outputs of transactions, and each by its fields: the text first, then the number
abbrev pub source_cmp : SourceId → SourceId → Ordering
source_cmp (D key block) (D key' block') = ordering_then (slice_cmp nat_cmp key key') (nat_cmp block block')
source_cmp (D key block) (T tx index) = Less
source_cmp (T tx index) (D key block) = Greater
source_cmp (T tx index) (T tx' index') = ordering_then (slice_cmp nat_cmp tx tx') (nat_cmp index index')

-- the order that the code derives
abbrev pub derived_cmp : SourceId → SourceId → Ordering
derived_cmp = (derived.ghosts).cmp
