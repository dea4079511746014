-- The members in order, and the walk from each to the next.
use Rattle.std.proofs.Common.{◌≡◌, zero, suc, ◌⊎◌, inl, inr, Bool, true, false, not, cond, List, [], ◌∷◌, ◌++◌, Option, Some, None, Contains, refl, sym, ap, subst, ◌∙◌, true≢false, arith}
use Rattle.std.specs.Prelude.{find}
use Rattle.std.specs.List.{AllByRecursion}
use Rattle.std.specs.Ordering.{nat_cmp, is_lt}
use Rattle.std.specs.declared.cmp.Ordering.TheVariants.{Less}
use Rattle.std.specs.Cmp.Lexicographic.{slice_cmp}
use Rattle.std.proofs.lemmas.Map.Keys.{sorted_head, sorted_tail}
use Rattle.std.proofs.lemmas.Option.{same_Some}
use Rattle.dubp_atoms.specs.Same.{Text}
use Rattle.dubp_wot.specs.Order.{less, is_above, IsInOrder, IsNext, IsNextMember}
use Rattle.dubp_wot.specs.Search.{up_to}
use Rattle.dubp_wot.proofs.KeyOrder.{less-own, less-back, less-meets, above-up}

-- ---- the next key of a list in order is the first that is above

pub Contains-cases : {X : Type 0} (x a : X) (xs : List X) → Contains (x ∷ xs) a → (x ≡ a) ⊎ Contains xs a
Contains-cases x a xs (zero, within, e) = inl e
Contains-cases x a xs (suc k, within, e) = inr (k, omega arith, e)

pub Contains-there : {X : Type 0} (x a : X) (xs : List X) → Contains xs a → Contains (x ∷ xs) a
Contains-there x a xs (k, within, e) = (suc k, omega arith, e)

pub Contains-none : {X : Type 0} (a : X) → Contains [] a → ⊥
Contains-none a (k, within, e) = absurd (omega arith)

behind : (x a : Text) (xs : List Text) → AllByRecursion (λ y. slice_cmp nat_cmp x y ≡ Less) xs → Contains xs a → less x a ≡ true
behind x a [] all m = absurd (Contains-none a m)
behind x a (y ∷ ys) all m = elim (Contains-cases y a ys m) [
  | inl e ↦ subst (λ z. less x z ≡ true) e (ap is_lt all.0)
  | inr n ↦ behind x a ys all.1 n
]

module _ (after : Option Text) (x : Text) (xs : List Text) where
  least-first : IsInOrder (x ∷ xs) → (a : Text) → (x ≡ a) ⊎ Contains xs a → less a x ≡ false
  least-first order a (inl e) = subst (λ z. less z x ≡ false) e (less-own x)
  least-first order a (inr m) = less-back x a (behind x a xs (sorted_head (slice_cmp nat_cmp) x xs order) m)

  next-behind : is_above after x ≡ false → (answer : Option Text) → IsNextMember xs after answer → IsNextMember (x ∷ xs) after answer
  next-behind below None none =
      λ a m. elim (Contains-cases x a xs m) [ inl e ↦ subst (λ z. is_above after z ≡ false) e below | inr n ↦ none a n ]
  next-behind below (Some k) some = (
    Contains-there x k xs some.0,
    some.1,
    λ a m above. elim (Contains-cases x a xs m) [
      | inl e ↦ absurd (true≢false (sym above ∙ subst (λ z. is_above after z ≡ false) e below))
      | inr n ↦ some.2 a n above
    ],
  )

pub find-next : (after : Option Text) (xs : List Text) → IsInOrder xs → IsNextMember xs after (find (is_above after) xs)
find-next after [] order = λ a m. absurd (Contains-none a m)
find-next after (x ∷ xs) order =
    elim (is_above after x) as (λ t. is_above after x ≡ t → IsNextMember (x ∷ xs) after (cond t (Some x) (find (is_above after) xs))) [
      | true ↦ λ above. ((0, omega arith, refl), above, λ a m _. least-first after x xs order a (Contains-cases x a xs m))
      | false ↦ λ below.
          next-behind after x xs below (find (is_above after) xs) (find-next after xs (sorted_tail (slice_cmp nat_cmp) x xs order))
    ] refl

-- there is one next key
next-one : (P : Text → Type 0) (after x y : Option Text) → IsNext P after x → IsNext P after y → x ≡ y
next-one P after None None h k = refl
next-one P after None (Some y) h k = absurd (true≢false (sym k.1 ∙ h y k.0))
next-one P after (Some x) None h k = absurd (true≢false (sym h.1 ∙ k x h.0))
next-one P after (Some x) (Some y) h k = ap Some (less-meets x y (k.2 x h.0 h.1) (h.2 y k.0 k.1))

next-is-find : (after answer : Option Text) (xs : List Text) → IsInOrder xs → IsNextMember xs after answer → find (is_above after) xs ≡ answer
next-is-find after answer xs order next = next-one (Contains xs) after (find (is_above after) xs) answer (find-next after xs order) next

-- ---- the keys up to the one that was last taken

-- none is kept where all are above
none-kept : (after : Option Text) (x : Text) → ((y : Text) → less x y ≡ true → is_above after y ≡ true) → (xs : List Text)
    → AllByRecursion (λ y. slice_cmp nat_cmp x y ≡ Less) xs → up_to after xs ≡ []
none-kept after x up [] all = refl
none-kept after x up (y ∷ ys) all =
    ap (λ (t : Bool). cond (not t) (y ∷ up_to after ys) (up_to after ys)) (up y (ap is_lt all.0)) ∙ none-kept after x up ys all.1

found-behind : (p : Text → Bool) (x k : Text) (xs : List Text) → find p xs ≡ Some k → AllByRecursion (λ y. slice_cmp nat_cmp x y ≡ Less) xs → less x k ≡ true
found-behind p x k [] f all = cc
found-behind p x k (y ∷ ys) f all =
    elim (p y) as (λ t. cond t (Some y) (find p ys) ≡ Some k → less x k ≡ true) [
      | true ↦ λ e. subst (λ z. less x z ≡ true) (same_Some y k e) (ap is_lt all.0)
      | false ↦ λ e. found-behind p x k ys e all.1
    ] f

find-last : (after : Option Text) (k : Text) (xs : List Text) → IsInOrder xs → find (is_above after) xs ≡ Some k → up_to (Some k) xs ≡ up_to after xs ++ k ∷ []
find-last after k [] order f = cc
find-last after k (x ∷ xs) order f =
    let all = sorted_head (slice_cmp nat_cmp) x xs order in
    let rest = sorted_tail (slice_cmp nat_cmp) x xs order in
    elim (is_above after x) as (λ t. is_above after x ≡ t → cond t (Some x) (find (is_above after) xs) ≡ Some k
    → up_to (Some k) (x ∷ xs) ≡ cond (not t) (x ∷ up_to after xs) (up_to after xs) ++ k ∷ []) [
      | true ↦ λ above e.
          let same = same_Some x k e in
          let empty = none-kept after x (λ y h. above-up after x y above h) xs all in
          let later = none-kept (Some k) x (λ y h. subst (λ z. less z y ≡ true) same h) xs all in
          ap (λ (t : Bool). cond (not t) (x ∷ up_to (Some k) xs) (up_to (Some k) xs)) (subst (λ z. less z x ≡ false) same (less-own x))
          ∙ ap (λ (ys : List Text). x ∷ ys) later ∙ ap (λ (z : Text). z ∷ []) same ∙ ap (λ (ys : List Text). ys ++ k ∷ []) (sym empty)
      | false ↦ λ above e.
          let before = less-back x k (found-behind (is_above after) x k xs e all) in
          ap (λ (t : Bool). cond (not t) (x ∷ up_to (Some k) xs) (up_to (Some k) xs)) before ∙ ap (λ (ys : List Text). x ∷ ys) (find-last after k xs rest e)
    ] refl f

find-all : (after : Option Text) (xs : List Text) → find (is_above after) xs ≡ None → up_to after xs ≡ xs
find-all after [] f = refl
find-all after (x ∷ xs) f =
    elim (is_above after x) as (λ t. cond t (Some x) (find (is_above after) xs) ≡ None → cond (not t) (x ∷ up_to after xs) (up_to after xs) ≡ x ∷ xs) [
      | true ↦ λ e. cc
      | false ↦ λ e. ap (λ (ys : List Text). x ∷ ys) (find-all after xs e)
    ] f

pub up_to-first : (xs : List Text) → up_to None xs ≡ []
up_to-first [] = refl
up_to-first (x ∷ xs) = up_to-first xs

-- where there is no next key, all were taken
pub up_to-end : (after : Option Text) (xs : List Text) → IsInOrder xs → IsNextMember xs after None → up_to after xs ≡ xs
up_to-end after xs order next = find-all after xs (next-is-find after None xs order next)

-- the next key is put behind those that were taken
pub up_to-next : (after : Option Text) (k : Text) (xs : List Text) → IsInOrder xs → IsNextMember xs after (Some k) → up_to (Some k) xs ≡ up_to after xs ++ k ∷ []
up_to-next after k xs order next = find-last after k xs order (next-is-find after (Some k) xs order next)
