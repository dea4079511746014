-- The issuers of one key: as a web says them, in order, and as a list of them comes into a set.
use Rattle.std.proofs.Common.{◌≡◌, ℕ, ◌+◌, ◌<◌, ◌≤◌, inl, inr, Bool, true, false, cond, List, [], ◌∷◌, ◌++◌, if◌then◌else◌, Option, Some, None, IfSome, length, get_or, Contains, refl, sym, ap, subst, ◌∙◌, true≢false, arith}
use Rattle.std.specs.List.{list_any}
use Rattle.std.proofs.Math.ListN.{length-append}
use Rattle.std.proofs.lemmas.List.{append_assoc}
use Rattle.std.proofs.lemmas.Bool.{cases_lt}
use Rattle.std.proofs.lemmas.Option.{slice_get_within, slice_get-get_or, same_Some, get_or_from_slice_get}
use Rattle.indexmap.specs.IndexSet.{insert_key}
use Rattle.dubp_atoms.specs.Same.{Text, same_text}
use Rattle.dubp_wot.specs.Known.{AreIssuersOf, is_among, members_among}
use Rattle.dubp_wot.specs.Order.{less, is_above, IsNext, AreNext, AreNextIssuers}
use Rattle.dubp_wot.specs.Search.{In}
use Rattle.dubp_wot.proofs.KeyOrder.{less-meets, above-up}
use Rattle.dubp_wot.proofs.Levels.{text_same, text_own, slice_get-append, In-from_any, any_from_In, In-insert}
use Rattle.dubp_wot.proofs.Members.{Contains-cases, Contains-there, Contains-none}

-- ---- as a web says them

module _ (P : Text → Type 0) where
  -- one more was put
  pub next-more : (after : Option Text) (some : List Text) (k : Text) → IsNext P after (Some k) → ((rest : List Text) → AreNext P after rest → AreNext P None (some ++ rest))
      → (new : List Text) → new ≡ some ++ k ∷ [] → (rest : List Text) → AreNext P (Some k) rest → AreNext P None (new ++ rest)
  next-more after some k next before new put rest more =
      subst (λ xs. AreNext P None (xs ++ rest)) (sym put) (subst (AreNext P None) (sym (append_assoc some (k ∷ []) rest)) (before (k ∷ rest) (next, more)))

  -- a key that was put has P, and is above
  next-has : (after : Option Text) (keys : List Text) → AreNext P after keys → (a : Text) → Contains keys a → P a × (is_above after a ≡ true)
  next-has after [] none a m = absurd (Contains-none a m)
  next-has after (k ∷ keys) is a m = elim (Contains-cases k a keys m) [
    | inl e ↦ (subst P e is.0.0, subst (λ z. is_above after z ≡ true) e is.0.1)
    | inr n ↦ let h = next-has (Some k) keys is.1 a n in (h.0, above-up after k a is.0.1 h.1)
  ]

  -- and each such key was put
  next-all : (after : Option Text) (keys : List Text) → AreNext P after keys → (a : Text) → P a → is_above after a ≡ true → Contains keys a
  next-all after [] none a p above = absurd (true≢false (sym above ∙ none a p))
  next-all after (k ∷ keys) is a p above = elim (less k a) as (λ t. less k a ≡ t → Contains (k ∷ keys) a) [
    | true ↦ λ e. Contains-there k a keys (next-all (Some k) keys is.1 a p e)
    | false ↦ λ e. subst (Contains (k ∷ keys)) (less-meets k a e (is.0.2 a p above)) (0, omega arith, refl)
  ] refl

-- a key stands in a list where the test finds it there
pub among-has : (keys : List Text) (k : Text) → Contains keys k → is_among keys k ≡ true
among-has keys k m = any_from_In same_text text_same text_own keys k m.0 (slice_get-get_or keys m.0 k m.1 ∙ ap Some m.2)

pub has-among : (keys : List Text) (k : Text) → is_among keys k ≡ true → Contains keys k
has-among keys k h =
    let m = In-from_any same_text text_same keys k h in
    (m.0, slice_get_within keys m.0 k m.1, get_or_from_slice_get keys m.0 k k m.1)

module _ (members : List Text) where
  -- a key is one of those who are members where it is a member and stands in the list
  pub among-both : (keys : List Text) (a : Text) → Contains (members_among members keys) a → Contains members a × Contains keys a
  among-both [] a m = absurd (Contains-none a m)
  among-both (k ∷ keys) a m =
      elim (is_among members k) as (λ t. is_among members k ≡ t → Contains (cond t (k ∷ members_among members keys) (members_among members keys)) a → Contains members a × Contains (k ∷ keys) a) [
        | true ↦ λ e h. elim (Contains-cases k a (members_among members keys) h) [
          | inl s ↦ (subst (Contains members) s (has-among members k e), (0, omega arith, s))
          | inr n ↦ let both = among-both keys a n in (both.0, Contains-there k a keys both.1)
        ]
        | false ↦ λ _ h. let both = among-both keys a h in (both.0, Contains-there k a keys both.1)
      ] refl m

  pub both-among : (keys : List Text) (a : Text) → Contains members a → Contains keys a → Contains (members_among members keys) a
  both-among [] a in' m = absurd (Contains-none a m)
  both-among (k ∷ keys) a in' m =
      elim (is_among members k) as (λ t. is_among members k ≡ t → Contains (cond t (k ∷ members_among members keys) (members_among members keys)) a) [
        | true ↦ λ _. elim (Contains-cases k a keys m) [
          | inl s ↦ (0, omega arith, s)
          | inr n ↦ Contains-there k a (members_among members keys) (both-among keys a in' n)
        ]
        | false ↦ λ e. elim (Contains-cases k a keys m) [
          | inl s ↦ absurd (true≢false (sym (among-has members a in') ∙ subst (λ z. is_among members z ≡ false) s e))
          | inr n ↦ both-among keys a in' n
        ]
      ] refl

  -- those of all issuers who are members
  pub among-issuers : (pairs : List (Text × Text)) (to : Text) (all : List Text) → AreNextIssuers pairs to None all → AreIssuersOf members pairs to (members_among members all)
  among-issuers pairs to all next = λ a. (
    λ m. let both = among-both all a m in (both.0, (next-has (λ x. Contains pairs (x, to)) None all next a both.1).0),
    λ h. both-among all a h.0 (next-all (λ x. Contains pairs (x, to)) None all next a h.1 refl),
  )

-- what holds of the value that is there
pub if_there : {X : Type 0} (P : X → Type 0) (found : Option X) (x : X) → found ≡ Some x → IfSome found P → P x
if_there {X = X} P found x is h = subst (λ (o : Option X). IfSome o P) is h

-- ---- as their numbers come into a list

module _ {K : Type 0} (eq : K → K → Bool) where
  pub longer-insert : (keys : List K) (k : K) → length keys ≤ length (insert_key eq keys k)
  longer-insert keys k = by (list_any (eq k) keys)
    where
      by : (t : Bool) → length keys ≤ length (if t then keys else keys ++ k ∷ [])
      by true = omega arith
      by false = omega (arith, length-append keys (k ∷ []))

  pub In-insert_old : (keys : List K) (k a : K) → In keys a → In (insert_key eq keys k) a
  In-insert_old keys k a m = by (list_any (eq k) keys)
    where
      by : (t : Bool) → In (if t then keys else keys ++ k ∷ []) a
      by true = m
      by false = (m.0, slice_get-append keys (k ∷ []) m.0 a m.1)

  -- one more of a list is put
  pub In-put : ((x y : K) → eq x y ≡ true → x ≡ y) → (xs : List K) (i : ℕ) (k : K) → i < length xs → k ≡ get_or xs i k → (keys new : List K) → new ≡ insert_key eq keys k
      → ((a : K) (j : ℕ) → j < i → get_or xs j a ≡ a → In keys a) → (a : K) (j : ℕ) → j < i + 1 → get_or xs j a ≡ a → In new a
  In-put same xs i k within at keys new put before a j low here =
      subst (λ ks. In ks a) (sym put) (elim (cases_lt j i) [
        | inl below ↦ In-insert_old keys k a (before a j below here)
        | inr past ↦
            let j_is : j ≡ i = omega arith in
            let mine = slice_get-get_or xs i k within ∙ ap Some (sym at) in
            let its = slice_get-get_or xs i a within ∙ ap Some (subst (λ n. get_or xs n a ≡ a) j_is here) in
            subst (In (insert_key eq keys k)) (same_Some k a (sym mine ∙ its)) (In-insert eq same keys k)
      ])
