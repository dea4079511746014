-- The states of a moving table beside the one that it has now. Each stands with how many keys were set from the state before it.
use Rattle.std.proofs.Common.{◌≡◌, ℕ, suc, ◌+◌, ◌-◌, List, [], ◌∷◌, ◌++◌, length, reverse, drop, refl, ap, ◌∙◌, arith}
use Rattle.std.proofs.lemmas.List.{reverse-append}

--     kept      the earlier states, last first
--     ahead     the states that `hold` took off, next first
--     root      the state from which `ahead` goes on
pub record Others (N : Type 0) : Type 0 where
  pub kept : List (N × ℕ)
  pub ahead : List (N × ℕ)
  pub root : N

-- the states of two that move together
abbrev pub zip : {M N : Type 0} → List (M × ℕ) → List (N × ℕ) → List ((M × N) × ℕ)
zip [] ys = []
zip (x ∷ xs) [] = []
zip (x ∷ xs) (y ∷ ys) = ((x.0, y.0), x.1 + y.1) ∷ zip xs ys

abbrev pub zip_others : {M N : Type 0} → Others M → Others N → Others (M × N)
zip_others o p = record { kept = zip o.kept p.kept; ahead = zip o.ahead p.ahead; root = (o.root, p.root) }

-- all but the oldest, which is the last of the list
abbrev pub but_last : {X : Type 0} → List X → List X
but_last [] = []
but_last (x ∷ []) = []
but_last (x ∷ y ∷ ys) = x ∷ but_last (y ∷ ys)

module _ {N : Type 0} where
  -- equal parts, equal wholes
  pub same_others : (o p : Others N) → o.kept ≡ p.kept → o.ahead ≡ p.ahead → o.root ≡ p.root → o ≡ p
  same_others o p k a r =
      let make : List (N × ℕ) → List (N × ℕ) → N → Others N = λ x y z. record { kept = x; ahead = y; root = z } in
      ap (λ x. make x o.ahead o.root) k ∙ ap (λ y. make p.kept y o.root) a ∙ ap (λ z. make p.kept p.ahead z) r

module _ {M N : Type 0} where
  pub length_zip : (xs : List (M × ℕ)) (ys : List (N × ℕ)) → length xs ≡ length ys → length (zip xs ys) ≡ length xs
  length_zip [] ys e = refl
  length_zip (x ∷ xs) [] e = absurd (omega arith)
  length_zip (x ∷ xs) (y ∷ ys) e =
      let rest : length xs ≡ length ys = omega arith in
      ap suc (length_zip xs ys rest)

  pub but_last_zip : (xs : List (M × ℕ)) (ys : List (N × ℕ)) → length xs ≡ length ys → but_last (zip xs ys) ≡ zip (but_last xs) (but_last ys)
  but_last_zip [] ys e = refl
  but_last_zip (x ∷ []) [] e = refl
  but_last_zip (x ∷ x' ∷ xs) [] e = refl
  but_last_zip (x ∷ []) (y ∷ []) e = refl
  but_last_zip (x ∷ []) (y ∷ y' ∷ ys) e = absurd (omega arith)
  but_last_zip (x ∷ x' ∷ xs) (y ∷ []) e = absurd (omega arith)
  but_last_zip (x ∷ x' ∷ xs) (y ∷ y' ∷ ys) e =
      let rest : length (x' ∷ xs) ≡ length (y' ∷ ys) = omega arith in
      ap (λ z. ((x.0, y.0), x.1 + y.1) ∷ z) (but_last_zip (x' ∷ xs) (y' ∷ ys) rest)

module _ {X : Type 0} where
  pub length_but_last : (xs : List X) → length (but_last xs) ≡ length xs - 1
  length_but_last [] = refl
  length_but_last (x ∷ []) = refl
  length_but_last (x ∷ y ∷ ys) = let rest = length_but_last (y ∷ ys) in omega (arith, rest)

  -- the oldest is the first where the last comes first
  pub reverse_push : (xs : List X) (x : X) → reverse (xs ++ x ∷ []) ≡ x ∷ reverse xs
  reverse_push xs x = reverse-append xs (x ∷ [])

  pub but_last_push : (xs : List X) (x : X) → but_last (xs ++ x ∷ []) ≡ xs
  but_last_push [] x = refl
  but_last_push (y ∷ []) x = refl
  but_last_push (y ∷ z ∷ zs) x = ap (λ r. y ∷ r) (but_last_push (z ∷ zs) x)

  pub but_last_reverse : (xs : List X) → but_last (reverse xs) ≡ reverse (drop 1 xs)
  but_last_reverse [] = refl
  but_last_reverse (x ∷ xs) = ap but_last (reverse-append (x ∷ []) xs) ∙ but_last_push (reverse xs) x
