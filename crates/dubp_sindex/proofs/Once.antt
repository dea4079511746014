-- Lists in which no key stands twice. The test of keys is any that says when two are one.
use Rattle.std.proofs.Common.{◌≡◌, ℕ, ◌+◌, Bool, true, false, cond, not, ◌||◌, ◌&&◌, List, [], ◌∷◌, ◌++◌, map, filter, sum_by, refl, ap, sym, ◌∙◌, subst, true≢false, add-zero, inl, inr}
use Rattle.std.specs.List.{list_any}
use Rattle.std.proofs.lemmas.List.Sums.{sum_by-cons}
use Rattle.std.proofs.lemmas.List.Folds.{list_any-append}
use Rattle.dubp_sindex.specs.Rows.{each_once}
use Rattle.dubp_sindex.proofs.Elements.{and_left, and_right, not_true, or_left, or_right, is_false, IsIn, in_any, any_in, none_in, in_filter, list_any-map}

-- the keys of a list stand once where its elements do by their keys
pub each_once-map : {X K : Type 0} (eq : K → K → Bool) (key : X → K) (xs : List X)
    → each_once eq (map key xs) ≡ each_once (λ x y. eq (key x) (key y)) xs
each_once-map eq key [] = refl
each_once-map eq key (x ∷ xs) = λ i. not (list_any-map (eq (key x)) key xs i) && each_once-map eq key xs i

module _ {X K : Type 0} (eq : K → K → Bool) (is : (a b : K) → eq a b ≡ true → a ≡ b) (own : (a : K) → eq a a ≡ true) (key : X → K) where
  abbrev pub Once : List X → Type 0
  Once xs = each_once (λ x y. eq (key x) (key y)) xs ≡ true

  pub once_tail : (x : X) (xs : List X) → Once (x ∷ xs) → Once xs
  once_tail x xs o = and_right (not (list_any (λ y. eq (key x) (key y)) xs)) _ o

  pub once_head : (x : X) (xs : List X) → Once (x ∷ xs) → list_any (λ y. eq (key x) (key y)) xs ≡ false
  once_head x xs o = not_true _ (and_left _ (each_once (λ x y. eq (key x) (key y)) xs) o)

  -- what a list does not have, a filter of it does not have
  none_kept : (k : K) (p : X → Bool) (xs : List X) → list_any (λ y. eq k (key y)) xs ≡ false → list_any (λ y. eq k (key y)) (filter p xs) ≡ false
  none_kept k p xs e =
      is_false (list_any (λ y. eq k (key y)) (filter p xs)) (λ found. let h = any_in (λ y. eq k (key y)) (filter p xs) found in
      true≢false (sym (in_any (λ y. eq k (key y)) xs h.0 (in_filter p xs h.0 h.1).0 h.2) ∙ e))

  pub once-filter : (p : X → Bool) (xs : List X) → Once xs → Once (filter p xs)
  once-filter p [] o = refl
  once-filter p (x ∷ xs) o =
      let rest = once-filter p xs (once_tail x xs o) in
      let none = none_kept (key x) p xs (once_head x xs o) in
      elim (p x) as (λ b. Once (cond b (x ∷ filter p xs) (filter p xs))) [ true ↦ rw none rest | false ↦ rest ]

  -- two lists without repeats that share nothing
  pub once-append : (xs ys : List X) → Once xs → Once ys → ((x y : X) → IsIn x xs → IsIn y ys → eq (key x) (key y) ≡ false) → Once (xs ++ ys)
  once-append [] ys o q apart = q
  once-append (x ∷ xs) ys o q apart =
      let rest = once-append xs ys (once_tail x xs o) q (λ y z there there'. apart y z (inr there) there') in
      let none : list_any (λ y. eq (key x) (key y)) (xs ++ ys) ≡ false =
      list_any-append (λ y. eq (key x) (key y)) xs ys
      ∙ ap (λ b. b || list_any (λ y. eq (key x) (key y)) ys) (once_head x xs o)
      ∙ none_in (λ y. eq (key x) (key y)) ys (λ y there. apart x y (inl refl) there) in
      rw none rest

  pub once-parts : (xs ys : List X) → Once (xs ++ ys) → Once xs × Once ys
  once-parts [] ys o = (refl, o)
  once-parts (x ∷ xs) ys o =
      let rest = once-parts xs ys (once_tail x (xs ++ ys) o) in
      let none : list_any (λ y. eq (key x) (key y)) xs ≡ false =
      or_left (list_any (λ y. eq (key x) (key y)) xs) (list_any (λ y. eq (key x) (key y)) ys) (sym (list_any-append (λ y. eq (key x) (key y)) xs ys) ∙ once_head x (xs ++ ys) o) in
      (rw none rest.0, rest.1)

  -- elements with other keys are named by no key at once
  pub apart : {I : Type 0} (name : I → K) (x : X) (i : I) (is' : List I) → eq (key x) (name i) ≡ true
      → list_any (λ j. eq (name i) (name j)) is' ≡ false → list_any (λ j. eq (key x) (name j)) is' ≡ false
  apart name x i is' same none = subst (λ k. list_any (λ j. eq k (name j)) is' ≡ false) (sym (is _ _ same)) none

  nothing : (f : X → ℕ) (p : X → Bool) (xs : List X) → list_any p xs ≡ false → sum_by f (filter p xs) ≡ 0
  nothing f p [] e = refl
  nothing f p (x ∷ xs) e = let h = or_left (p x) (list_any p xs) e in rw h (nothing f p xs (or_right (p x) (list_any p xs) e))

  flip : (a b : K) → eq a b ≡ eq b a
  flip a b =
      elim (eq a b) as (λ r. eq a b ≡ r → r ≡ eq b a) [
        | true ↦ λ e. sym (subst (λ k. eq k a ≡ true) (is a b e) (own a))
        | false ↦ λ e. elim (eq b a) as (λ r. eq b a ≡ r → false ≡ r) [ true ↦ λ h. sym e ∙ subst (λ k. eq k b ≡ true) (is b a h) (own b) | false ↦ λ _. refl ] refl
      ] refl

  -- the elements with the key of one of them are that one
  pub sum_of_one : (f : X → ℕ) (xs : List X) (s : X) → Once xs → IsIn s xs → sum_by f (filter (λ x. eq (key x) (key s)) xs) ≡ f s
  sum_of_one f [] s o there = absurd there
  sum_of_one f (x ∷ xs) s o (inl e) =
      subst (λ z. sum_by f (filter (λ y. eq (key y) (key z)) (x ∷ xs)) ≡ f z) (sym e)
      (let none : list_any (λ y. eq (key y) (key x)) xs ≡ false = subst (λ p. list_any p xs ≡ false) (λ i y. flip (key x) (key y) i) (once_head x xs o) in
      rw (own (key x)) (sum_by-cons f x (filter (λ y. eq (key y) (key x)) xs) ∙ ap (λ n. f x + n) (nothing f (λ y. eq (key y) (key x)) xs none) ∙ add-zero _))
  sum_of_one f (x ∷ xs) s o (inr there) =
      let later = sum_of_one f xs s (once_tail x xs o) there in
      elim (eq (key x) (key s)) as (λ b. eq (key x) (key s) ≡ b → sum_by f (cond b (x ∷ filter (λ y. eq (key y) (key s)) xs) (filter (λ y. eq (key y) (key s)) xs)) ≡ f s) [
        | true ↦ λ same. absurd (true≢false (sym (in_any (λ y. eq (key x) (key y)) xs s there same) ∙ once_head x xs o))
        | false ↦ λ _. later
      ] refl
