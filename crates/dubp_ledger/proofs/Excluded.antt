-- Whom a chain has to exclude are keys, since each of them stands in a line of Joiners.
use Rattle.std.proofs.Common.{◌≡◌, Bool, true, false, cond, List, [], ◌∷◌, map, filter}
use Rattle.std.specs.Prelude.{All}
use Rattle.std.specs.List.{AllByRecursion}
use Rattle.std.specs.Cmp.Lexicographic.{slice_cmp}
use Rattle.std.specs.Ordering.{nat_cmp}
use Rattle.std.specs.declared.cmp.Ordering.TheVariants.{Less, Equal, Greater}
use Rattle.std.specs.FinMap.Entries.{by_order, put}
use Rattle.std.proofs.lemmas.List.Elements.{All-from_recursion, recursion_from_All}
use Rattle.dubp_atoms.specs.Same.{Text}
use Rattle.dubp_atoms.specs.Letters.{is_key}
use Rattle.dubp_block.specs.Sections.{IsMembership}
use Rattle.dubp_block.specs.Text.{IsBlock}
use Rattle.dubp_block.specs.declared.block.MemberLine.{MemberLine}
use Rattle.dubp_chain.specs.Chains.{Chain}
use Rattle.dubp_chain.specs.Live.{is_kicked, kick}
use Rattle.dubp_chain.specs.Members.{joined_keys, member, members}
use Rattle.dubp_chain.specs.Words.{in_order, marked}
use Rattle.dubp_lists.proofs.Elements.{all_append}

abbrev IsKey : Text → Type 0
IsKey k = is_key k ≡ true

filter_all : (p : Text → Bool) (ks : List Text) → AllByRecursion IsKey ks → AllByRecursion IsKey (filter p ks)
filter_all p [] all = tt
filter_all p (k ∷ ks) all =
    let later = filter_all p ks all.1 in
    elim (p k) as (λ b. AllByRecursion IsKey (cond b (k ∷ filter p ks) (filter p ks))) [ true ↦ (all.0, later) | false ↦ later ]

put_all : (x : Text) (es : List (Text × Unit {0})) → IsKey x → AllByRecursion IsKey (map (λ e. e.0) es) → AllByRecursion IsKey (map (λ e. e.0) (put (slice_cmp nat_cmp) x tt es))
put_all x [] key all = (key, tt)
put_all x (e ∷ es) key all =
    elim (slice_cmp nat_cmp x e.0) as (λ r. AllByRecursion IsKey (map (λ e. e.0) (by_order r ((x, tt) ∷ e ∷ es) ((e.0, tt) ∷ es) (e ∷ put (slice_cmp nat_cmp) x tt es)))) [
      | Less ↦ (key, all)
      | Equal ↦ all
      | Greater ↦ (all.0, put_all x es key all.1)
    ]

marked_all : (ks : List Text) → AllByRecursion IsKey ks → AllByRecursion IsKey (in_order ks)
marked_all [] all = tt
marked_all (k ∷ ks) all = put_all k (marked ks) all.0 (marked_all ks all.1)

lines_all : (lines : List MemberLine) → AllByRecursion IsMembership lines → AllByRecursion IsKey (map (λ line. line.key) lines)
lines_all [] all = tt
lines_all (line ∷ lines) all = (all.0.key, lines_all lines all.1)

joined_all : (c : Chain) → AllByRecursion IsBlock c → AllByRecursion IsKey (joined_keys c)
joined_all [] all = tt
joined_all (b ∷ c) all = all_append IsKey (map (λ line. line.key) b.joiners) (joined_keys c) (lines_all b.joiners (recursion_from_All IsMembership b.joiners all.0.joiners)) (joined_all c all.1)

pub kicked_are_keys : (c : Chain) → AllByRecursion IsBlock c → All IsKey (kick c)
kicked_are_keys c all =
    All-from_recursion IsKey (kick c) (filter_all (is_kicked c) (members c) (filter_all (member c) (in_order (joined_keys c)) (marked_all (joined_keys c) (joined_all c all))))
