-- The lists of members and of live pairs, and what is said of them key by key.
use Rattle.std.proofs.Common.{◌≡◌, ◌↔◌, inl, inr, Bool, true, false, ◌&&◌, ◌||◌, IsTrue, List, [], ◌∷◌, Option, None, Some, Contains, refl, sym, subst, ◌∙◌, true≢false, arith}
use Rattle.std.specs.List.{list_any}
use Rattle.dubp_atoms.specs.Same.{Text, same_text}
use Rattle.dubp_chain.specs.Chains.{Chain}
use Rattle.dubp_chain.specs.Members.{member, members}
use Rattle.dubp_chain.specs.Live.{certified_pairs, live, live_pairs}
use Rattle.dubp_left.proofs.OfLists.{same_text_is, same_text_own, and_left, and_right, any_in, in_any, in_filter, kept_in}
use Rattle.dubp_left.proofs.OfSteps.{member_named, live_some}
use Rattle.dubp_iindex.specs.Order as index
use Rattle.dubp_wot.specs.Order.{IsNextMember, IsNextIssuer, AreNextIssuers}
use Rattle.dubp_wot.proofs.Members.{Contains-cases, Contains-there, Contains-none}

contains_by : {X : Type 0} (test : X → Bool) (x : X) → ((y : X) → test y ≡ true → x ≡ y) → (xs : List X) → list_any test xs ≡ true → Contains xs x
contains_by test x only [] e = absurd (true≢false (sym e))
contains_by test x only (y ∷ ys) e =
    elim (test y) as (λ t. test y ≡ t → (t || list_any test ys) ≡ true → Contains (y ∷ ys) x) [
      | true ↦ λ is _. subst (Contains (y ∷ ys)) (sym (only y is)) (0, omega arith, refl)
      | false ↦ λ _ later. Contains-there y x ys (contains_by test x only ys later)
    ] refl e

by_contains : {X : Type 0} (test : X → Bool) (x : X) → test x ≡ true → (xs : List X) → Contains xs x → list_any test xs ≡ true
by_contains test x own [] there = absurd (Contains-none x there)
by_contains test x own (y ∷ ys) there =
    elim (Contains-cases y x ys there) [
      | inl e ↦ let h : test y ≡ true = subst (λ z. test z ≡ true) (sym e) own in rw h refl
      | inr later ↦ elim (test y) as (λ t. (t || list_any test ys) ≡ true) [ true ↦ refl | false ↦ by_contains test x own ys later ]
    ]

module _ (c : Chain) (keys : List Text) (is : keys ≡ members c) where
  pub member_listed : (k : Text) → IsTrue (member c k) → Contains keys k
  member_listed k h = subst (λ ks. Contains ks k) (sym is) (contains_by (same_text k) k (λ y e. same_text_is k y e) (members c) (member_named c k ∙ h))

  pub listed_member : (k : Text) → Contains keys k → IsTrue (member c k)
  listed_member k there = sym (member_named c k) ∙ by_contains (same_text k) k (same_text_own k) (members c) (subst (λ ks. Contains ks k) is there)

  pub member_told : (k : Text) (answer : Bool) → answer ≡ member c k → IsTrue answer ↔ Contains keys k
  member_told k answer e = (λ h. member_listed k (sym e ∙ h), λ there. e ∙ listed_member k there)

  pub next_member_told : (after answer : Option Text) → index.IsNext (λ k. IsTrue (member c k)) after answer → IsNextMember keys after answer
  next_member_told None None h = λ a there. h a (listed_member a there)
  next_member_told None (Some k) h = (member_listed k h.0, h.1, λ a there above. h.2 a (listed_member a there) above)
  next_member_told (Some j) None h = λ a there. h a (listed_member a there)
  next_member_told (Some j) (Some k) h = (member_listed k h.0, h.1, λ a there above. h.2 a (listed_member a there) above)

abbrev is_pair : Text → Text → Text × Text → Bool
is_pair x y p = same_text x p.0 && same_text y p.1

-- a pair is live where it stands among the live pairs
module _ (c : Chain) (x y : Text) where
  is_live : list_any (is_pair x y) (live_pairs c) ≡ true → live c x y ≡ true
  is_live e =
      let h = any_in (is_pair x y) (live_pairs c) e in
      let g = in_filter (λ (p : Text × Text). live c p.0 p.1) (certified_pairs c) h.0 h.1 in
      let from = same_text_is x h.0.0 (and_left (same_text x h.0.0) (same_text y h.0.1) h.2) in
      let to = same_text_is y h.0.1 (and_right (same_text x h.0.0) (same_text y h.0.1) h.2) in
      (λ i. live c (from i) (to i)) ∙ g.1

  lists : live c x y ≡ true → list_any (is_pair x y) (live_pairs c) ≡ true
  lists is =
      let h = any_in (is_pair x y) (certified_pairs c) (live_some c x y is) in
      let from = same_text_is x h.0.0 (and_left (same_text x h.0.0) (same_text y h.0.1) h.2) in
      let to = same_text_is y h.0.1 (and_right (same_text x h.0.0) (same_text y h.0.1) h.2) in
      in_any (is_pair x y) (live_pairs c) h.0 (kept_in (λ (p : Text × Text). live c p.0 p.1) (certified_pairs c) h.0 h.1 ((λ i. live c (sym from i) (sym to i)) ∙ is)) h.2

module _ (c : Chain) (pairs : List (Text × Text)) (is : pairs ≡ live_pairs c) (to : Text) where
  pub pair_listed : (a : Text) → IsTrue (live c a to) → Contains pairs (a, to)
  pair_listed a h =
      subst (λ (ps : List (Text × Text)). Contains ps (a, to)) (sym is)
      (contains_by (λ (p : Text × Text). same_text a p.0 && same_text to p.1) (a, to)
      (λ y e. λ i. (same_text_is a y.0 (and_left (same_text a y.0) (same_text to y.1) e) i, same_text_is to y.1 (and_right (same_text a y.0) (same_text to y.1) e) i))
      (live_pairs c) (lists c a to h))

  pub listed_pair : (a : Text) → Contains pairs (a, to) → IsTrue (live c a to)
  listed_pair a there =
      is_live c a to
      (by_contains (λ (p : Text × Text). same_text a p.0 && same_text to p.1) (a, to) (both (same_text a a) (same_text to to) (same_text_own a) (same_text_own to)) (live_pairs c)
      (subst (λ (ps : List (Text × Text)). Contains ps (a, to)) is there))
    where
      both : (s t : Bool) → s ≡ true → t ≡ true → (s && t) ≡ true
      both s t h k = cc

  pub next_issuer_told : (after answer : Option Text) → index.IsNext (λ a. IsTrue (live c a to)) after answer → IsNextIssuer pairs to after answer
  next_issuer_told None None h = λ a there. h a (listed_pair a there)
  next_issuer_told None (Some k) h = (pair_listed k h.0, h.1, λ a there above. h.2 a (listed_pair a there) above)
  next_issuer_told (Some j) None h = λ a there. h a (listed_pair a there)
  next_issuer_told (Some j) (Some k) h = (pair_listed k h.0, h.1, λ a there above. h.2 a (listed_pair a there) above)

  pub issuers_told : (after : Option Text) (found : List Text) → index.AreNext (λ a. IsTrue (live c a to)) after found → AreNextIssuers pairs to after found
  issuers_told after [] h = next_issuer_told after None h
  issuers_told after (k ∷ found) h = (next_issuer_told after (Some k) h.0, issuers_told (Some k) found h.1)
