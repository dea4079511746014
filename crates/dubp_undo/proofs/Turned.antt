-- The kept maps, turned round: one more, one less, and one more set.
use Rattle.std.proofs.Common.{◌≡◌, ℕ, ◌+◌, ◌<◌, ◌≤◌, List, [], ◌∷◌, ◌++◌, length, drop, refl, ap, sym, ◌∙◌, arith, inl, inr, ◌⊎◌, Option}
use Rattle.std.specs.declared.cmp.Ordering.{Ordering}
use Rattle.dubp_undo.specs.Definition.{IsAt}
use Rattle.std.proofs.lemmas.List.{length_push}
use Rattle.dubp_moving.specs.Others.{but_last, but_last_push}
use Rattle.dubp_journal.specs.MovingTable.{one_more, first_count, last_count, SameValues}
use Rattle.dubp_undo.specs.Turned.{turned, last_from}

module _ {M : Type 0} where
  pub turned_push : (n : ℕ) (xs : List (M × ℕ)) (m : M) (k : ℕ) → turned n (xs ++ (m, k) ∷ []) ≡ (m, last_from n xs) ∷ turned n xs
  turned_push n [] m k = refl
  turned_push n (x ∷ xs) m k = ap (λ r. r ++ (x.0, n) ∷ []) (turned_push x.1 xs m k)

  pub last_push : (n : ℕ) (xs : List (M × ℕ)) (m : M) (k : ℕ) → last_from n (xs ++ (m, k) ∷ []) ≡ k
  last_push n [] m k = refl
  last_push n (x ∷ xs) m k = last_push x.1 xs m k

  -- one list is the other with a map more
  pub pushed : (n n' : ℕ) (xs ys : List (M × ℕ)) (m : M) (k : ℕ) → n' ≡ n → ys ≡ xs ++ (m, k) ∷ [] → turned n' ys ≡ (m, last_from n xs) ∷ turned n xs
  pushed n n' xs ys m k e f = rw (e, f) (turned_push n xs m k)

  pub counted : (n : ℕ) (xs ys : List (M × ℕ)) (m : M) (k : ℕ) → ys ≡ xs ++ (m, k) ∷ [] → last_from n ys ≡ k
  counted n xs ys m k f = rw f (last_push n xs m k)

  pub length_turned : (n : ℕ) (xs : List (M × ℕ)) → length (turned n xs) ≡ length xs
  length_turned n [] = refl
  length_turned n (x ∷ xs) = let rest = length_turned x.1 xs in omega (arith, rest, length_push (turned x.1 xs) (x.0, n))

module _ {K V : Type 0} where
  -- the oldest goes
  pub turned_drop : (n : ℕ) (xs : List (List (K × V) × ℕ)) → turned (first_count xs) (drop 1 xs) ≡ but_last (turned n xs)
  turned_drop n [] = refl
  turned_drop n (x ∷ xs) = sym (but_last_push (turned x.1 xs) (x.0, n))

  pub last_drop : (n : ℕ) (x : List (K × V) × ℕ) (xs : List (List (K × V) × ℕ)) → last_from (first_count (x ∷ xs)) (drop 1 (x ∷ xs)) ≡ last_from n (x ∷ xs)
  last_drop n x xs = refl

  pub dropped : (n n' : ℕ) (xs ys : List (List (K × V) × ℕ)) → n' ≡ first_count xs → ys ≡ drop 1 xs → turned n' ys ≡ but_last (turned n xs)
  dropped n n' xs ys e f = rw (e, f) (turned_drop n xs)

  pub drops : (n n' : ℕ) (xs ys : List (List (K × V) × ℕ)) → 0 < length xs → n' ≡ first_count xs → ys ≡ drop 1 xs → last_from n' ys ≡ last_from n xs
  drops n n' [] ys lt e f = absurd (omega arith)
  drops n n' (x ∷ xs) ys lt e f = rw (e, f) refl

  -- the last number
  pub last_is : (n : ℕ) (xs : List (List (K × V) × ℕ)) → 0 < length xs → last_from n xs ≡ last_count xs
  last_is n [] lt = absurd (omega arith)
  last_is n (x ∷ []) lt = refl
  last_is n (x ∷ y ∷ r) lt = last_is x.1 (y ∷ r) (omega arith)

  -- one more set
  pub turned_more : (n : ℕ) (xs : List (List (K × V) × ℕ)) → turned n (one_more xs) ≡ turned n xs
  turned_more n [] = refl
  turned_more n (x ∷ []) = refl
  turned_more n (x ∷ y ∷ r) = ap (λ z. z ++ (x.0, n) ∷ []) (turned_more x.1 (y ∷ r))

  pub last_more : (n : ℕ) (xs : List (List (K × V) × ℕ)) → last_from n (one_more xs) ≤ last_from n xs + 1
  last_more n [] = omega arith
  last_more n (x ∷ []) = omega arith
  last_more n (x ∷ y ∷ r) = last_more x.1 (y ∷ r)

  pub more : (n n' : ℕ) (xs ys : List (List (K × V) × ℕ)) → n' ≡ n → ys ≡ one_more xs → turned n' ys ≡ turned n xs
  more n n' xs ys e f = rw (e, f) (turned_more n xs)

  pub counts : (n n' : ℕ) (xs ys : List (List (K × V) × ℕ)) → n' ≡ n → ys ≡ one_more xs → last_from n' ys ≤ last_from n xs + 1
  counts n n' xs ys e f = rw (e, f) (last_more n xs)

-- two maps of one chain have the same values
module _ {B K V : Type 0} (cmp : K → K → Ordering) (definition : List B → K → Option V) where
  pub same_values : (m n : List (K × V)) (c : List B) → IsAt cmp definition m c → IsAt cmp definition n c → SameValues cmp m n
  same_values m n c p q k = p k ∙ sym (q k)

  pub may_begin : (now root : List (K × V)) (ahead : List (List (K × V) × ℕ)) → (0 < length ahead → (c : List B) × (IsAt cmp definition now c × IsAt cmp definition root c)) → (ahead ≡ []) ⊎ SameValues cmp now root
  may_begin now root [] b = inl refl
  may_begin now root (x ∷ ahead) b = let at = b (omega arith) in inr (same_values now root at.0 at.1.0 at.1.1)
