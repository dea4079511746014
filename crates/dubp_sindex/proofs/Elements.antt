-- Elements of a list, named by recursion, and what tests on lists say of them.
use Rattle.std.proofs.Common.{◌≡◌, Bool, true, false, cond, not, ◌||◌, ◌&&◌, List, [], ◌∷◌, ◌++◌, map, filter, Some, None, refl, ap, sym, subst, true≢false, inl, inr, ◌⊎◌}
use Rattle.std.specs.Prelude.{find, unwrap_or}
use Rattle.std.specs.List.{AllByRecursion, list_any}
use Rattle.std.proofs.lemmas.Option.{none-some}

-- ---- tests

pub and_left : (a b : Bool) → (a && b) ≡ true → a ≡ true
and_left true b e = refl
and_left false b e = e

pub and_right : (a b : Bool) → (a && b) ≡ true → b ≡ true
and_right true b e = e
and_right false b e = absurd (true≢false (sym e))

pub not_true : (a : Bool) → not a ≡ true → a ≡ false
not_true true e = sym e
not_true false e = refl

pub or_right : (a b : Bool) → (a || b) ≡ false → b ≡ false
or_right true b e = absurd (true≢false e)
or_right false b e = e

pub or_left : (a b : Bool) → (a || b) ≡ false → a ≡ false
or_left true b e = e
or_left false b e = refl

-- what is not true is false
pub is_false : (a : Bool) → (a ≡ true → ⊥) → a ≡ false
is_false true h = absurd (h refl)
is_false false h = refl

-- ---- elements

abbrev pub IsIn : {X : Type 0} → X → List X → Type 0
IsIn x [] = ⊥
IsIn x (y ∷ ys) = (x ≡ y) ⊎ IsIn x ys

module _ {X : Type 0} where
  pub in_left : (x : X) (xs ys : List X) → IsIn x xs → IsIn x (xs ++ ys)
  in_left x [] ys there = absurd there
  in_left x (z ∷ xs) ys (inl e) = inl e
  in_left x (z ∷ xs) ys (inr there) = inr (in_left x xs ys there)

  pub in_right : (x : X) (xs ys : List X) → IsIn x ys → IsIn x (xs ++ ys)
  in_right x [] ys there = there
  in_right x (z ∷ xs) ys there = inr (in_right x xs ys there)

  pub in_append : (x : X) (xs ys : List X) → IsIn x (xs ++ ys) → IsIn x xs ⊎ IsIn x ys
  in_append x [] ys there = inr there
  in_append x (z ∷ xs) ys (inl e) = inl (inl e)
  in_append x (z ∷ xs) ys (inr there) = elim (in_append x xs ys there) [ inl h ↦ inl (inr h) | inr h ↦ inr h ]

  pub all_from_in : (P : X → Type 0) (xs : List X) → ((x : X) → IsIn x xs → P x) → AllByRecursion P xs
  all_from_in P [] each = tt
  all_from_in P (x ∷ xs) each = (each x (inl refl), all_from_in P xs (λ y there. each y (inr there)))

  pub in_all : (P : X → Type 0) (xs : List X) → AllByRecursion P xs → (x : X) → IsIn x xs → P x
  in_all P [] all x there = absurd there
  in_all P (y ∷ ys) all x (inl e) = subst P (sym e) all.0
  in_all P (y ∷ ys) all x (inr there) = in_all P ys all.1 x there

  pub all_more : (P Q : X → Type 0) → ((x : X) → P x → Q x) → (xs : List X) → AllByRecursion P xs → AllByRecursion Q xs
  all_more P Q more [] h = tt
  all_more P Q more (x ∷ xs) h = (more x h.0, all_more P Q more xs h.1)

  pub all_append : (P : X → Type 0) (xs ys : List X) → AllByRecursion P xs → AllByRecursion P ys → AllByRecursion P (xs ++ ys)
  all_append P [] ys h k = k
  all_append P (x ∷ xs) ys h k = (h.0, all_append P xs ys h.1 k)

  pub in_any : (p : X → Bool) (xs : List X) (x : X) → IsIn x xs → p x ≡ true → list_any p xs ≡ true
  in_any p [] x there e = absurd there
  in_any p (y ∷ ys) x (inl same) e = let h : p y ≡ true = subst (λ z. p z ≡ true) same e in rw h
  in_any p (y ∷ ys) x (inr there) e = elim (p y) as (λ b. (b || list_any p ys) ≡ true) [ true ↦ refl | false ↦ in_any p ys x there e ]

  pub any_in : (p : X → Bool) (xs : List X) → list_any p xs ≡ true → (x : X) × IsIn x xs × (p x ≡ true)
  any_in p [] e = absurd (true≢false (sym e))
  any_in p (x ∷ xs) e =
      elim (p x) as (λ b. p x ≡ b → (b || list_any p xs) ≡ true → (y : X) × IsIn y (x ∷ xs) × (p y ≡ true)) [
        | true ↦ λ is _. (x, inl refl, is)
        | false ↦ λ is rest. let h = any_in p xs rest in (h.0, inr h.1, h.2)
      ] refl e

  -- none passes where each fails
  pub none_in : (p : X → Bool) (xs : List X) → ((x : X) → IsIn x xs → p x ≡ false) → list_any p xs ≡ false
  none_in p [] each = refl
  none_in p (x ∷ xs) each = let h = each x (inl refl) in rw h (none_in p xs (λ z there. each z (inr there)))

  pub in_filter : (p : X → Bool) (xs : List X) (x : X) → IsIn x (filter p xs) → IsIn x xs × (p x ≡ true)
  in_filter p [] x there = absurd there
  in_filter p (y ∷ ys) x there =
      elim (p y) as (λ b. p y ≡ b → IsIn x (cond b (y ∷ filter p ys) (filter p ys)) → IsIn x (y ∷ ys) × (p x ≡ true)) [
        | true ↦ λ is there. elim there [ inl e ↦ (inl e, subst (λ z. p z ≡ true) (sym e) is) | inr later ↦ let h = in_filter p ys x later in (inr h.0, h.1) ]
        | false ↦ λ is there. let h = in_filter p ys x there in (inr h.0, h.1)
      ] refl there

  -- two tests that agree on the list keep the same
  pub filter_on : (p q : X → Bool) (xs : List X) → ((x : X) → IsIn x xs → p x ≡ q x) → filter p xs ≡ filter q xs
  filter_on p q [] agree = refl
  filter_on p q (x ∷ xs) agree = let h = agree x (inl refl) in let t = filter_on p q xs (λ y there. agree y (inr there)) in rw (h, t)

  pub filter_true : (xs : List X) → filter (λ x. true) xs ≡ xs
  filter_true [] = refl
  filter_true (x ∷ xs) = ap (λ l. x ∷ l) (filter_true xs)

  pub filter_twice : (p q : X → Bool) (xs : List X) → filter p (filter q xs) ≡ filter (λ x. q x && p x) xs
  filter_twice p q [] = refl
  filter_twice p q (x ∷ xs) =
      elim (q x) as (λ b. filter p (cond b (x ∷ filter q xs) (filter q xs)) ≡ cond (b && p x) (x ∷ filter (λ x. q x && p x) xs) (filter (λ x. q x && p x) xs)) [
        | true ↦ ap (λ l. cond (p x) (x ∷ l) l) (filter_twice p q xs)
        | false ↦ filter_twice p q xs
      ]

  pub all_parts : (P : X → Type 0) (xs ys : List X) → AllByRecursion P (xs ++ ys) → AllByRecursion P xs × AllByRecursion P ys
  all_parts P [] ys h = (tt, h)
  all_parts P (x ∷ xs) ys h = let rest = all_parts P xs ys h.1 in ((h.0, rest.0), rest.1)

  pub all-filter : (P : X → Type 0) (p : X → Bool) (xs : List X) → AllByRecursion P xs → AllByRecursion P (filter p xs)
  all-filter P p [] h = tt
  all-filter P p (x ∷ xs) h = elim (p x) as (λ b. AllByRecursion P (cond b (x ∷ filter p xs) (filter p xs))) [
    | true ↦ (h.0, all-filter P p xs h.1)
    | false ↦ all-filter P p xs h.1
  ]

  -- where all pass, or none does
  pub filter_all : (p : X → Bool) (xs : List X) → AllByRecursion (λ x. p x ≡ true) xs → filter p xs ≡ xs
  filter_all p [] h = refl
  filter_all p (x ∷ xs) h = let here = h.0 in rw here (ap (λ l. x ∷ l) (filter_all p xs h.1))

  pub filter_none : (p : X → Bool) (xs : List X) → AllByRecursion (λ x. p x ≡ false) xs → filter p xs ≡ []
  filter_none p [] h = refl
  filter_none p (x ∷ xs) h = let here = h.0 in rw here (filter_none p xs h.1)

  pub all_fail : (p : X → Bool) (xs : List X) → AllByRecursion (λ x. p x ≡ false) xs → find p xs ≡ None
  all_fail p [] h = refl
  all_fail p (x ∷ xs) h = let here = h.0 in rw here (all_fail p xs h.1)

  pub in_middle : (front back : List X) (x : X) → IsIn x (front ++ x ∷ back)
  in_middle [] back x = inl refl
  in_middle (y ∷ front) back x = inr (in_middle front back x)

  -- an element stands between others
  pub record IsSplit (xs : List X) (x : X) : Type 0 where
    pub front : List X
    pub back : List X
    pub is : xs ≡ front ++ x ∷ back

  pub split_at : (xs : List X) (x : X) → IsIn x xs → IsSplit xs x
  split_at [] x there = absurd there
  split_at (y ∷ ys) x (inl e) = record { front = []; back = ys; is = ap (λ z. z ∷ ys) (sym e) }
  split_at (y ∷ ys) x (inr there) = let s = split_at ys x there in record { front = y ∷ s.front; back = s.back; is = ap (λ l. y ∷ l) s.is }

  -- what is found is one of the list, and passes
  pub found_in : (p : X → Bool) (xs : List X) (x : X) → find p xs ≡ Some x → IsIn x xs × (p x ≡ true)
  found_in p [] x e = absurd (none-some x e)
  found_in p (y ∷ ys) x e =
      elim (p y) as (λ b. p y ≡ b → cond b (Some y) (find p ys) ≡ Some x → IsIn x (y ∷ ys) × (p x ≡ true)) [
        | true ↦ λ passes same. let is : y ≡ x = ap (λ o. unwrap_or o y) same in (inl (sym is), subst (λ z. p z ≡ true) is passes)
        | false ↦ λ _ later. let h = found_in p ys x later in (inr h.0, h.1)
      ] refl e

pub list_any-map : {X Y : Type 0} (p : Y → Bool) (f : X → Y) (xs : List X) → list_any p (map f xs) ≡ list_any (λ x. p (f x)) xs
list_any-map p f [] = refl
list_any-map p f (x ∷ xs) = ap (λ b. p (f x) || b) (list_any-map p f xs)

pub kept_in : {X : Type 0} (p : X → Bool) (xs : List X) (x : X) → IsIn x xs → p x ≡ true → IsIn x (filter p xs)
kept_in p [] x there passes = there
kept_in p (y ∷ ys) x (inl e) passes =
    let here : p y ≡ true = subst (λ z. p z ≡ true) e passes in
    rw here (inl e)
kept_in p (y ∷ ys) x (inr there) passes =
    elim (p y) as (λ b. IsIn x (cond b (y ∷ filter p ys) (filter p ys))) [ true ↦ inr (kept_in p ys x there passes) | false ↦ kept_in p ys x there passes ]
