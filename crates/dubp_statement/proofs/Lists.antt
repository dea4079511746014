-- Lists in turn: one element more.
use Rattle.std.proofs.Common.{◌≡◌, ◌+◌, ◌<◌, ℕ, zero, suc, List, [], ◌∷◌, ◌++◌, length, map, take, drop, fold, get_or, refl, ap, sym, ◌∙◌, subst, append_assoc, take-append-drop, arith}
use Rattle.std.specs.List.{enumerate_from}
use Rattle.std.proofs.lemmas.List.{take_more, length-take-le, map-append, take_all}
use Rattle.std.proofs.lemmas.List.Sums.{fold-append}
use Rattle.std.proofs.Math.Seq.{take-append_seam}

-- a fold over one element more
pub fold_next : {X Y : Type 0} (f : Y → X → Y) (a : Y) (xs : List X) (i : ℕ) (x : X) → i < length xs → x ≡ get_or xs i x → fold f a (take (i + 1) xs) ≡ f (fold f a (take i xs)) x
fold_next f a xs i x within is =
    ap (fold f a) (take_more xs i x within ∙ ap (λ y. take i xs ++ y ∷ []) (sym is)) ∙ fold-append f a (take i xs) (x ∷ [])

pub all_taken : {X : Type 0} (xs : List X) (i : ℕ) → i ≡ length xs → take i xs ≡ xs
all_taken xs i is = take_all i xs (omega (arith, is))

-- one element more, with its number
numbered_next : {X : Type 0} (n : ℕ) (xs : List X) (x : X) → enumerate_from n (xs ++ x ∷ []) ≡ enumerate_from n xs ++ (n + length xs, x) ∷ []
numbered_next n [] x = let same : n ≡ n + 0 = omega arith in ap (λ m. (m, x) ∷ []) same
numbered_next n (y ∷ xs) x =
    let same : (n + 1) + length xs ≡ n + length (y ∷ xs) = omega arith in
    ap (λ l. (n, y) ∷ l) (numbered_next (n + 1) xs x ∙ ap (λ m. enumerate_from (n + 1) xs ++ (m, x) ∷ []) same)

pub numbered_more : {X Y Z : Type 0} (f : Z → Y → Z) (g : ℕ × X → Y) (a : Z) (xs : List X) (i : ℕ) (x : X) → i < length xs → x ≡ get_or xs i x
    → fold f a (map g (enumerate_from 0 (take (i + 1) xs))) ≡ f (fold f a (map g (enumerate_from 0 (take i xs)))) (g (i, x))
numbered_more f g a xs i x within is =
    let place : 0 + length (take i xs) ≡ i = omega (arith, length-take-le i xs (omega (arith, within))) in
    ap (λ l. fold f a (map g (enumerate_from 0 l))) (take_more xs i x within ∙ ap (λ y. take i xs ++ y ∷ []) (sym is))
    ∙ ap (λ l. fold f a (map g l)) (numbered_next 0 (take i xs) x ∙ ap (λ m. enumerate_from 0 (take i xs) ++ (m, x) ∷ []) place)
    ∙ ap (fold f a) (map-append g (enumerate_from 0 (take i xs)) ((i, x) ∷ []))
    ∙ fold-append f a (map g (enumerate_from 0 (take i xs))) (g (i, x) ∷ [])

-- the element of a list whose images these are
pub record ImageAt {X Y : Type 0} (f : X → Y) (xs : List X) (i : ℕ) (y : Y) : Type 0 where
  pub source : X
  pub is : y ≡ f source
  pub more : take (i + 1) xs ≡ take i xs ++ source ∷ []

behind : {X Y : Type 0} (f : X → Y) (x : X) (xs : List X) (i : ℕ) (y : Y) → ImageAt f xs i y → ImageAt f (x ∷ xs) (suc i) y
behind f x xs i y at =
    let next : suc i + 1 ≡ suc (i + 1) = omega arith in
    record { source = at.source; is = at.is; more = ap (λ n. take n (x ∷ xs)) next ∙ ap (λ l. x ∷ l) at.more }

pub image_at : {X Y : Type 0} (f : X → Y) (xs : List X) (ys : List Y) (i : ℕ) (y : Y) → ys ≡ map f xs → i < length ys → y ≡ get_or ys i y → ImageAt f xs i y
image_at {X = X} f xs ys i y are within is = by xs i (subst (λ l. i < length l) are within) (subst (λ l. y ≡ get_or l i y) are is)
  where
    by : (xs : List X) (i : ℕ) → i < length (map f xs) → y ≡ get_or (map f xs) i y → ImageAt f xs i y
    by [] i within is = absurd (omega (arith, within))
    by (x ∷ xs) zero within is = record { source = x; is = is; more = refl }
    by (x ∷ xs) (suc i) within is = behind f x xs i y (by xs i (omega (arith, within)) is)

pub mapped_more : {X Y Z : Type 0} (f : Z → Y → Z) (g : X → Y) (a : Z) (xs : List X) (i : ℕ) (x : X) → i < length xs → x ≡ get_or xs i x
    → fold f a (map g (take (i + 1) xs)) ≡ f (fold f a (map g (take i xs))) (g x)
mapped_more f g a xs i x within is =
    ap (λ l. fold f a (map g l)) (take_more xs i x within ∙ ap (λ y. take i xs ++ y ∷ []) (sym is))
    ∙ ap (fold f a) (map-append g (take i xs) (x ∷ []))
    ∙ fold-append f a (map g (take i xs)) (g x ∷ [])

-- what a list begins with that is appended to more than once
module _ {A : Type 0} where
  front_of : (xs ys : List A) → take (length xs) ys ≡ xs → ys ≡ xs ++ drop (length xs) ys
  front_of xs ys begins = sym (take-append-drop (length xs) ys) ∙ ap (λ l. l ++ drop (length xs) ys) begins

  pub begins_on : (xs ys zs : List A) → take (length xs) ys ≡ xs → take (length ys) zs ≡ ys → take (length xs) zs ≡ xs
  begins_on xs ys zs first next =
      ap (take (length xs)) (front_of ys zs next ∙ ap (λ l. l ++ drop (length ys) zs) (front_of xs ys first) ∙ append_assoc xs (drop (length xs) ys) (drop (length ys) zs))
      ∙ take-append_seam xs (drop (length xs) ys ++ drop (length ys) zs)
