-- The origins of sources, which are the keys that dividends are paid to and the hashes of transactions, numbered in the order in which
-- they came, and the names that sources have by these numbers. Protocol: sources.
use Rattle.std.specs.Prelude.{◌≡◌, ◌==◌, ◌&&◌, Bool, true, false, List, [], Option, option_map, slice_get}
use Rattle.std.specs.List.{list_any, position_or_len, AllByRecursion}
use Rattle.dubp_atoms.specs.Same.{Text, same_text}
use Rattle.dubp_cond.specs.declared.source.SourceId.{SourceId}
use Rattle.dubp_cond.specs.declared.source.SourceId.TheVariants.{D, T}
use Rattle.dubp_sindex.specs.declared.origins.Name.{Name}
use Rattle.dubp_sindex.specs.declared.origins.Name.TheVariants.{Dividend, Output}
use Rattle.dubp_sindex.specs.Numbering.{number_of, with_text}
use Rattle.dubp_sindex.specs.Rows.{Entry}

-- the origins that have a number, each with its place in its list as the number
pub record OriginTexts : Type 0 where
  pub keys : List Text
  pub hashes : List Text

abbrev pub no_origins : OriginTexts
no_origins = record { keys = []; hashes = [] }

-- the name of a source whose origin has a number
abbrev pub name_in : OriginTexts → SourceId → Option Name
name_in o (D key block) = option_map (λ n. Dividend n block) (number_of o.keys key)
name_in o (T tx index) = option_map (λ n. Output n index) (number_of o.hashes tx)

-- the source that has a name
abbrev pub source_in : OriginTexts → Name → Option SourceId
source_in o (Dividend number block) = option_map (λ key. D key block) (slice_get o.keys number)
source_in o (Output number index) = option_map (λ tx. T tx index) (slice_get o.hashes number)

-- the origins with that of a source, which gets the next number where it has none
abbrev pub with_origin : OriginTexts → SourceId → OriginTexts
with_origin o (D key block) = record { keys = with_text o.keys key; hashes = o.hashes }
with_origin o (T tx index) = record { keys = o.keys; hashes = with_text o.hashes tx }

-- the origin of a source has a number
abbrev pub is_known : OriginTexts → SourceId → Bool
is_known o (D key block) = list_any (same_text key) o.keys
is_known o (T tx index) = list_any (same_text tx) o.hashes

-- and so have those of all rows
abbrev pub AreKnown : OriginTexts → List Entry → Type 0
AreKnown o rows = AllByRecursion (λ e. is_known o e.0 ≡ true) rows

-- the name of a source; one whose origin has no number has that of the next
abbrev pub name_of : OriginTexts → SourceId → Name
name_of o (D key block) = Dividend (position_or_len (same_text key) o.keys) block
name_of o (T tx index) = Output (position_or_len (same_text tx) o.hashes) index

abbrev pub same_name : Name → Name → Bool
same_name (Dividend n block) (Dividend n' block') = n == n' && block == block'
same_name (Output n index) (Output n' index') = n == n' && index == index'
same_name (Dividend n block) (Output n' index) = false
same_name (Output n index) (Dividend n' block) = false

-- an origin that has a number keeps it
abbrev pub Keeps : OriginTexts → OriginTexts → Type 0
Keeps old new = (id : SourceId) → is_known old id ≡ true → (is_known new id ≡ true) × (name_of new id ≡ name_of old id)

-- a row of the source that has this name
abbrev pub has_name : OriginTexts → Name → Entry → Bool
has_name o name e = same_name name (name_of o e.0)
