-- How many members there are with the block: those before it, less those that leave, and those that join. And that members stand in order.
use Rattle.std.proofs.Common.{◌≡◌, ◌+◌, ◌-◌, ◌≤◌, Bool, true, false, not, ◌&&◌, List, [], ◌∷◌, map, filter, length, refl, ap, sym, subst, ◌∙◌, arith}
use Rattle.std.specs.Prelude.{T}
use Rattle.std.specs.List.{AllByRecursion, IsDistinct, list_any}
use Rattle.std.specs.List.Sorted.{IsStrictlySortedBy}
use Rattle.std.specs.Ordering.{is_lt, eq_by_cmp}
use Rattle.std.specs.declared.cmp.Ordering.{Ordering}
use Rattle.std.specs.declared.cmp.Ordering.TheVariants.{Less, Equal, Greater}
use Rattle.std.specs.Cmp.Lexicographic.{nat_list_cmp_total, nat_list_eq_equiv, texts_ties}
use Rattle.std.specs.BTreeMap.{is_at}
use Rattle.std.specs.FinMap.Entries.{below_all, is_sorted, is_sorted-put}
use Rattle.std.proofs.lemmas.List.Filters.{length-filter_both}
use Rattle.std.proofs.lemmas.List.Kept.{IsStrictlySortedBy-filter}
use Rattle.std.proofs.lemmas.Map.Keys.{IsDistinct-from_sorted}
use Rattle.std.proofs.lemmas.Map.Made.{length-from_same_keys}
use Rattle.std.proofs.lemmas.Map.Views.{any-filter_same}
use Rattle.dubp_atoms.specs.Same.{Text, same_text}
use Rattle.dubp_block.specs.declared.block.Block.{Block}
use Rattle.dubp_chain.specs.Words.{names, in_order, marked}
use Rattle.dubp_chain.specs.Chains.{Chain}
use Rattle.dubp_chain.specs.Members.{joined_keys, member, members}
use Rattle.dubp_iindex.specs.Rows.{texts}
use Rattle.dubp_lists.proofs.InOrder.{same_text_is}
use Rattle.dubp_left.proofs.OfSteps.{member_named}
use Rattle.dubp_people_distance.specs.Moved.{SaysWhoJoins, SaysWhoLeaves}

-- ---- in order

marked_sorted : (ks : List Text) → T (is_sorted texts (marked ks))
marked_sorted [] = tt
marked_sorted (k ∷ ks) = is_sorted-put texts nat_list_cmp_total k tt (marked ks) (marked_sorted ks)

front : (a b : Bool) → T (a && b) → T a
front true b p = tt
front false b p = p

back : (a b : Bool) → T (a && b) → T b
back true b p = p
back false b p = absurd p

is_less : (o : Ordering) → T (is_lt o) → o ≡ Less
is_less Less h = refl
is_less Equal h = absurd h
is_less Greater h = absurd h

abbrev keys : List (Text × Unit {0}) → List Text
keys es = map (λ (e : Text × Unit {0}). e.0) es

below_keys : (x : Text) (es : List (Text × Unit {0})) → T (below_all texts x es) → AllByRecursion (λ y. texts x y ≡ Less) (keys es)
below_keys x [] below = tt
below_keys x (e ∷ es) below = (is_less (texts x e.0) (front _ _ below), below_keys x es (back _ _ below))

keys_sorted : (es : List (Text × Unit {0})) → T (is_sorted texts es) → IsStrictlySortedBy texts (keys es)
unfolding IsStrictlySortedBy
keys_sorted [] sorted = tt
keys_sorted (e ∷ es) sorted = (below_keys e.0 es (front _ _ sorted), keys_sorted es (back _ _ sorted))

pub in_order_sorted : (ks : List Text) → IsStrictlySortedBy texts (in_order ks)
in_order_sorted ks = keys_sorted (marked ks) (marked_sorted ks)

pub members_sorted : (c : Chain) → IsStrictlySortedBy texts (members c)
members_sorted c = IsStrictlySortedBy-filter texts (member c) (in_order (joined_keys c)) (in_order_sorted (joined_keys c))

-- ---- each once

pub sorted_once : (ks : List Text) → IsStrictlySortedBy texts ks → IsDistinct same_text ks
sorted_once ks sorted =
    let same : same_text ≡ eq_by_cmp texts = λ i. λ x y. texts_ties x y i in
    subst (λ (e : Text → Text → Bool). IsDistinct e ks) (sym same) (IsDistinct-from_sorted texts ks sorted)

-- a set in order has the keys of its list
pub tree_named : (ks : List Text) (k : Text) → names ks k ≡ list_any (is_at (texts k)) ks
tree_named ks k = ap (λ (test : Text → Bool). list_any test ks) (λ i. λ x. texts_ties k x i)

module _ (p : Text → Bool) (c : Chain) where
  part_once : IsDistinct same_text (filter p (members c))
  part_once = sorted_once (filter p (members c)) (IsStrictlySortedBy-filter texts p (members c) (members_sorted c))

  part_named : (k : Text) → names (filter p (members c)) k ≡ (p k && member c k)
  part_named k = any-filter_same (same_text k) p (p k) (λ x same. ap p (sym (same_text_is k x same))) (members c) ∙ ap (λ (t : Bool). p k && t) (member_named c k)

swap : (s t : Bool) → (s && t) ≡ (t && s)
swap true true = refl
swap true false = refl
swap false true = refl
swap false false = refl

module _ (c : Chain) (b : Block) (joined left : List Text) (joined_once : IsDistinct same_text joined) (left_once : IsDistinct same_text left)
    (who_joined : SaysWhoJoins c b (names joined)) (who_left : SaysWhoLeaves c b (names left)) where
  abbrev was : Text → Bool
  was k = member c k

  abbrev is : Text → Bool
  is k = member (b ∷ c) k

  staying : length (filter was (members (b ∷ c))) ≡ length (filter is (members c))
  staying = length-from_same_keys nat_list_eq_equiv (filter was (members (b ∷ c))) (filter is (members c)) (part_once was (b ∷ c)) (part_once is c)
      (λ k. part_named was (b ∷ c) k ∙ swap (was k) (is k) ∙ sym (part_named is c k))

  joining : length (filter (λ k. not (was k)) (members (b ∷ c))) ≡ length joined
  joining = length-from_same_keys nat_list_eq_equiv (filter (λ k. not (was k)) (members (b ∷ c))) joined (part_once (λ k. not (was k)) (b ∷ c)) joined_once
      (λ k. part_named (λ k. not (was k)) (b ∷ c) k ∙ swap (not (was k)) (is k) ∙ sym (who_joined k))

  leaving : length (filter (λ k. not (is k)) (members c)) ≡ length left
  leaving = length-from_same_keys nat_list_eq_equiv (filter (λ k. not (is k)) (members c)) left (part_once (λ k. not (is k)) c) left_once
      (λ k. part_named (λ k. not (is k)) c k ∙ swap (not (is k)) (was k) ∙ sym (who_left k))

  pub record IsBalanced : Type 0 where
    pub fits : length left ≤ length (members c)
    pub balance : length (members (b ∷ c)) + length left ≡ length (members c) + length joined

  pub balanced : IsBalanced
  balanced =
      let with_ = length-filter_both was (λ k. not (was k)) (λ k. refl) (members (b ∷ c)) in
      let before = length-filter_both is (λ k. not (is k)) (λ k. refl) (members c) in
      let s = staying in
      let j = joining in
      let l = leaving in
      record { fits = omega (arith, before, l); balance = omega (arith, with_, before, s, j, l) }
