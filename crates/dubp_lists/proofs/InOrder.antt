-- Texts in order stand once each, none is left out, and so do the members of a chain.
use Rattle.std.proofs.Common.{◌≡◌, Bool, true, false, ◌&&◌, List, [], ◌∷◌, map, refl, sym, ◌∙◌, subst, T, inl, inr, ◌⊎◌}
use Rattle.std.specs.List.{list_any}
use Rattle.std.specs.Cmp.Lexicographic.{slice_cmp, nat_list_cmp_total}
use Rattle.std.specs.Ordering.{nat_cmp, is_lt}
use Rattle.std.specs.declared.cmp.Ordering.TheVariants.{Less, Equal, Greater}
use Rattle.std.specs.FinMap.{nat_cmp-IsAntisymmetric, slice_cmp-IsAntisymmetric}
use Rattle.std.specs.FinMap.Entries.{by_order, put, below_all, is_sorted, is_sorted-put}
use Rattle.std.proofs.lemmas.Cmp.{tied_itself}
use Rattle.dubp_chain.specs.OfAtoms.{Text, same_text}
pub use Rattle.dubp_chain.proofs.OfAtoms.{same_text_is, same_text_own}
use Rattle.dubp_chain.specs.Words.{names, each_once, marked, in_order}
use Rattle.dubp_chain.specs.Chains.{Chain}
use Rattle.dubp_chain.specs.Members.{member, members, joined_keys}
use Rattle.dubp_lists.proofs.Elements.{is_false, IsIn, any_in, in_any}
use Rattle.dubp_lists.proofs.Once.{once-filter}

marked-sorted : (ks : List Text) → T (is_sorted (slice_cmp nat_cmp) (marked ks))
marked-sorted [] = tt
marked-sorted (k ∷ ks) = is_sorted-put (slice_cmp nat_cmp) nat_list_cmp_total k tt (marked ks) (marked-sorted ks)

first : (a b : Bool) → T (a && b) → T a
first true b p = tt
first false b p = p

second : (a b : Bool) → T (a && b) → T b
second true b p = p
second false b p = absurd p

-- no text is below itself
not_below : (k : Text) → T (is_lt (slice_cmp nat_cmp k k)) → ⊥
not_below k below = subst (λ r. T (is_lt r)) (tied_itself nat_list_cmp_total k) below

-- a text that is below each of them is none of them
below_none : (k : Text) (es : List (Text × Unit {0})) → T (below_all (slice_cmp nat_cmp) k es) → list_any (same_text k) (map (λ e. e.0) es) ≡ false
below_none k [] below = refl
below_none k (e ∷ es) below =
    let here : same_text k e.0 ≡ false = is_false _ (λ same. not_below k (subst (λ q. T (is_lt (slice_cmp nat_cmp k q))) (sym (same_text_is k e.0 same)) (first _ _ below))) in
    rw here (below_none k es (second _ _ below))

sorted_once : (es : List (Text × Unit {0})) → T (is_sorted (slice_cmp nat_cmp) es) → each_once same_text (map (λ e. e.0) es) ≡ true
sorted_once [] sorted = refl
sorted_once (e ∷ es) sorted =
    let none = below_none e.0 es (first _ _ sorted) in
    rw none (sorted_once es (second _ _ sorted))

pub in_order-once : (ks : List Text) → each_once same_text (in_order ks) ≡ true
in_order-once ks = sorted_once (marked ks) (marked-sorted ks)

pub members-once : (c : Chain) → each_once same_text (members c) ≡ true
members-once c = once-filter same_text same_text_is same_text_own (λ k. k) (member c) (in_order (joined_keys c)) (in_order-once (joined_keys c))

-- ---- no text is left out

abbrev keys : List (Text × Unit {0}) → List Text
keys es = map (λ e. e.0) es

in_put : (k x : Text) (es : List (Text × Unit {0})) → (k ≡ x) ⊎ IsIn k (keys es) → IsIn k (keys (put (slice_cmp nat_cmp) x tt es))
in_put k x [] there = there
in_put k x (e ∷ es) there =
    elim (slice_cmp nat_cmp x e.0) as (λ r. slice_cmp nat_cmp x e.0 ≡ r → IsIn k (keys (by_order r ((x, tt) ∷ e ∷ es) ((e.0, tt) ∷ es) (e ∷ put (slice_cmp nat_cmp) x tt es)))) [
      | Less ↦ λ _. there
      | Equal ↦ λ tied. elim there [ inl same ↦ inl (same ∙ slice_cmp-IsAntisymmetric nat_cmp-IsAntisymmetric x e.0 tied) | inr old ↦ old ]
      | Greater ↦ λ _. elim there [
        | inl same ↦ inr (in_put k x es (inl same))
        | inr old ↦ elim old [ inl here ↦ inl here | inr later ↦ inr (in_put k x es (inr later)) ]
      ]
    ] refl

in_marked : (k : Text) (ks : List Text) → IsIn k ks → IsIn k (keys (marked ks))
in_marked k [] there = there
in_marked k (x ∷ ks) there = in_put k x (marked ks) (elim there [ inl same ↦ inl same | inr later ↦ inr (in_marked k ks later) ])

pub in_order-in : (k : Text) (ks : List Text) → IsIn k ks → IsIn k (in_order ks)
in_order-in = in_marked

pub names_in_order : (k : Text) (ks : List Text) → names ks k ≡ true → names (in_order ks) k ≡ true
names_in_order k ks named =
    let h = any_in (same_text k) ks named in
    in_any (same_text k) (in_order ks) h.0 (in_order-in h.0 ks h.1) h.2
