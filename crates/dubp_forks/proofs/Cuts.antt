-- The last of a list, and what a list of entries is cut into.
use Rattle.std.proofs.Common.{◌≡◌, ◌≤◌, ℕ, zero, suc, ◌-◌, List, [], ◌∷◌, ◌++◌, map, length, take, drop, reverse, slice_get, Some, refl, sym, ap, ◌∙◌, arith, append_assoc, append-nil, take-append-drop, length-drop}
use Rattle.std.proofs.lemmas.List.{length-map, length-reverse, reverse-append}
use Rattle.dubp_forks.proofs.Keyed.{same_some}

-- the element at a place is the first of those from it on
drop_at : {X : Type 0} (n : ℕ) (xs : List X) (x : X) → slice_get xs n ≡ Some x → drop n xs ≡ x ∷ drop (suc n) xs
drop_at zero [] x e = cc
drop_at zero (y ∷ xs) x e = ap (λ z. z ∷ xs) (same_some y x e)
drop_at (suc n) [] x e = cc
drop_at (suc n) (y ∷ xs) x e = drop_at n xs x e

pub drop_front : {X : Type 0} (xs ys : List X) → drop (length xs) (xs ++ ys) ≡ ys
drop_front [] ys = refl
drop_front (x ∷ xs) ys = drop_front xs ys

-- the last of a list that is turned round
last_reversed : {X : Type 0} (count : ℕ) (xs : List X) → drop (length xs - count) (reverse xs) ≡ reverse (take count xs)
last_reversed count xs =
    let parts : reverse xs ≡ reverse (drop count xs) ++ reverse (take count xs) = ap reverse (sym (take-append-drop count xs)) ∙ reverse-append (take count xs) (drop count xs) in
    let long : length xs - count ≡ length (reverse (drop count xs)) = sym (length-reverse (drop count xs) ∙ length-drop count xs) in
    ap (drop (length xs - count)) parts ∙ ap (λ n. drop n (reverse (drop count xs) ++ reverse (take count xs))) long ∙ drop_front (reverse (drop count xs)) (reverse (take count xs))

drop_past : {X : Type 0} (n : ℕ) (xs : List X) → length xs ≤ n → drop n xs ≡ []
drop_past zero [] e = refl
drop_past zero (x ∷ xs) e = absurd (omega (arith, e))
drop_past (suc n) [] e = refl
drop_past (suc n) (x ∷ xs) e = drop_past n xs (omega (arith, e))

-- ---- the last of a list, written from the first of them on
-- one more is written
pub one_written : {X Y : Type 0} (f : X → Y) (xs : List X) (n : ℕ) (x : X) (written all : List Y) → slice_get xs n ≡ Some x → written ++ map f (drop n xs) ≡ all → (written ++ f x ∷ []) ++ map f (drop (suc n) xs) ≡ all
one_written f xs n x written all at e =
    append_assoc written (f x ∷ []) (map f (drop (suc n) xs)) ∙ ap (λ l. written ++ map f l) (sym (drop_at n xs x at)) ∙ e

-- all are
pub all_written : {X Y : Type 0} (f : X → Y) (xs : List X) (count n : ℕ) (written : List Y) → length xs ≤ n → written ++ map f (drop n (reverse xs)) ≡ map f (drop (length xs - count) (reverse xs)) → written ≡ map f (reverse (take count xs))
all_written f xs count n written past e =
    let none : drop n (reverse xs) ≡ [] = drop_past n (reverse xs) (omega (arith, past, length-reverse xs)) in
    sym (append-nil written) ∙ ap (λ l. written ++ map f l) (sym none) ∙ e ∙ ap (map f) (last_reversed count xs)

pub length_take : {X : Type 0} (n : ℕ) (xs : List X) → length (take n xs) ≤ n
length_take zero xs = omega arith
length_take (suc n) [] = omega arith
length_take (suc n) (x ∷ xs) = omega (arith, length_take n xs)

-- and no more
pub few_written : {X Y : Type 0} (f : X → Y) (xs : List X) (count : ℕ) (written : List Y) → written ≡ map f (reverse (take count xs)) → length written ≤ count
few_written f xs count written e =
    omega (arith, ap length e, length-map (reverse (take count xs)) f, length-reverse (take count xs), length_take count xs)

-- ---- entries
module _ {K B : Type 0} (key : B → K) where
  -- the entries of blocks, cut at one of them, are those of the blocks before it, its own, and others
  pub record IsCut (blocks : List B) (front : List (K × B)) (entry : K × B) : Type 0 where
    pub before : List B
    pub block : B
    pub after : List B
    pub parts : blocks ≡ before ++ block ∷ after
    pub front_is : front ≡ map (λ b. (key b, b)) before
    pub entry_is : entry ≡ (key block, block)

  cut_more : (b : B) (blocks : List B) (f : K × B) (front : List (K × B)) (entry : K × B) → (key b, b) ≡ f → IsCut blocks front entry → IsCut (b ∷ blocks) (f ∷ front) entry
  cut_more b blocks f front entry first rest = record {
    before = b ∷ rest.before;
    block = rest.block;
    after = rest.after;
    parts = ap (λ l. b ∷ l) rest.parts;
    front_is = ap (λ x. x ∷ front) (sym first) ∙ ap (λ l. (key b, b) ∷ l) rest.front_is;
    entry_is = rest.entry_is;
  }

  pub cut_at : (blocks : List B) (front : List (K × B)) (entry : K × B) (back : List (K × B)) → map (λ b. (key b, b)) blocks ≡ front ++ entry ∷ back → IsCut blocks front entry
  cut_at [] [] entry back e = cc
  cut_at [] (f ∷ front) entry back e = cc
  cut_at (b ∷ blocks) [] entry back e = record { before = []; block = b; after = blocks; parts = refl; front_is = refl; entry_is = cc }
  cut_at (b ∷ blocks) (f ∷ front) entry back e =
      let first : (key b, b) ≡ f = cc in
      let others : map (λ b. (key b, b)) blocks ≡ front ++ entry ∷ back = cc in
      cut_more b blocks f front entry first (cut_at blocks front entry back others)
