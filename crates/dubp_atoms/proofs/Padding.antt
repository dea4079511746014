-- Texts with zeros behind them are ordered as the texts are: the arrays first, and where these are equal the lengths.
use Rattle.std.proofs.Common.{◌≡◌, ℕ, zero, suc, ◌+◌, ◌-◌, ◌≤◌, Bool, true, false, nat_eq, List, [], ◌∷◌, ◌++◌, length, take, drop, replicate, Ordering, Less, Equal, Greater, refl, ap, sym, ◌∙◌, append_assoc, arith}
use Rattle.std.specs.Ordering.{nat_cmp, ordering_then}
use Rattle.std.specs.Cmp.Lexicographic.{pointwise, slice_cmp, bytes_decides}
use Rattle.std.proofs.lemmas.Bool.Decides.{nat_tests}
use Rattle.std.proofs.lemmas.Cmp.{nat_list_cmp_total, tied_itself}
use Rattle.std.proofs.lemmas.List.{drop-replicate, replicate-append-replicate}
use Rattle.dubp_atoms.specs.Padded.{IsPadded, padded, array_of_text, length_padded}

abbrev zeros : ℕ → List ℕ
zeros n = replicate n 0

then_assoc : (p q r : Ordering) → ordering_then (ordering_then p q) r ≡ ordering_then p (ordering_then q r)
then_assoc Less q r = refl
then_assoc Equal q r = refl
then_assoc Greater q r = refl

same_tie : (xs : List ℕ) (o : Ordering) → ordering_then (slice_cmp nat_cmp xs xs) o ≡ o
same_tie xs o = ap (λ p. ordering_then p o) (tied_itself nat_list_cmp_total xs)

zero_below : (y : ℕ) → nat_cmp 0 (suc y) ≡ Less
zero_below y = grind (arith, nat_tests)

above_zero : (x : ℕ) → nat_cmp (suc x) 0 ≡ Greater
above_zero x = grind (arith, nat_tests)

cmp_suc : (n m : ℕ) → nat_cmp (suc n) (suc m) ≡ nat_cmp n m
cmp_suc n m = grind (arith, nat_tests)

-- zeros against a text with zeros behind it, as long as they are
zeros_first : (t : List ℕ) (a b : ℕ) → a ≡ length t + b → ordering_then (slice_cmp nat_cmp (zeros a) (t ++ zeros b)) Less ≡ Less
zeros_first [] a b e = ap (λ k. ordering_then (slice_cmp nat_cmp (zeros k) (zeros b)) Less) (omega arith) ∙ same_tie (zeros b) Less
zeros_first (y ∷ t) zero b e = absurd (omega arith)
zeros_first (zero ∷ t) (suc a) b e = zeros_first t a b (omega arith)
zeros_first (suc y ∷ t) (suc a) b e = ap (λ o. ordering_then (ordering_then o (slice_cmp nat_cmp (zeros a) (t ++ zeros b))) Less) (zero_below y)

zeros_last : (s : List ℕ) (a b : ℕ) → length s + a ≡ b → ordering_then (slice_cmp nat_cmp (s ++ zeros a) (zeros b)) Greater ≡ Greater
zeros_last [] a b e = ap (λ k. ordering_then (slice_cmp nat_cmp (zeros k) (zeros b)) Greater) (omega arith) ∙ same_tie (zeros b) Greater
zeros_last (x ∷ s) a zero e = absurd (omega arith)
zeros_last (zero ∷ s) a (suc b) e = zeros_last s a b (omega arith)
zeros_last (suc x ∷ s) a (suc b) e = ap (λ o. ordering_then (ordering_then o (slice_cmp nat_cmp (s ++ zeros a) (zeros b))) Greater) (above_zero x)

order_with_zeros : (s t : List ℕ) (a b : ℕ) → length s + a ≡ length t + b
    → ordering_then (slice_cmp nat_cmp (s ++ zeros a) (t ++ zeros b)) (nat_cmp (length s) (length t)) ≡ slice_cmp nat_cmp s t
order_with_zeros [] [] a b e = ap (λ k. ordering_then (slice_cmp nat_cmp (zeros k) (zeros b)) Equal) (omega arith) ∙ same_tie (zeros b) Equal
order_with_zeros [] (y ∷ t) a b e =
    ap (ordering_then (slice_cmp nat_cmp (zeros a) (y ∷ t ++ zeros b))) (zero_below (length t)) ∙ zeros_first (y ∷ t) a b (omega arith)
order_with_zeros (x ∷ s) [] a b e =
    ap (ordering_then (slice_cmp nat_cmp (x ∷ s ++ zeros a) (zeros b))) (above_zero (length s)) ∙ zeros_last (x ∷ s) a b (omega arith)
order_with_zeros (x ∷ s) (y ∷ t) a b e =
    then_assoc (nat_cmp x y) _ _
    ∙ ap (λ o. ordering_then (nat_cmp x y) (ordering_then (slice_cmp nat_cmp (s ++ zeros a) (t ++ zeros b)) o)) (cmp_suc (length s) (length t))
    ∙ ap (ordering_then (nat_cmp x y)) (order_with_zeros s t a b (omega arith))

-- the order of two texts, told from their arrays and lengths
pub order_padded : (room : ℕ) (xs ys : List ℕ) (n m : ℕ) → IsPadded room xs n → IsPadded room ys m
    → ordering_then (slice_cmp nat_cmp xs ys) (nat_cmp n m) ≡ slice_cmp nat_cmp (take n xs) (take m ys)
order_padded room xs ys n m p q =
    let ns : length (take n xs) ≡ n = length_padded room xs n p in
    let ms : length (take m ys) ≡ m = length_padded room ys m q in
    let long : length (take n xs) + (room - length (take n xs)) ≡ length (take m ys) + (room - length (take m ys)) = omega (arith, ns, ms, p.fits, q.fits) in
    (λ i. ordering_then (slice_cmp nat_cmp (sym (array_of_text room xs n p) i) (sym (array_of_text room ys m q) i)) (nat_cmp (sym ns i) (sym ms i)))
    ∙ order_with_zeros (take n xs) (take m ys) (room - length (take n xs)) (room - length (take m ys)) long

agree : (b c : Bool) → (b ≡ true → c ≡ true) → (c ≡ true → b ≡ true) → b ≡ c
agree true c f g = sym (f refl)
agree false true f g = g refl
agree false false f g = refl

-- where the lengths are equal, the arrays are equal exactly where the texts are
pub same_padded : (room : ℕ) (xs ys : List ℕ) (n m : ℕ) → IsPadded room xs n → IsPadded room ys m → n ≡ m
    → pointwise nat_eq xs ys ≡ pointwise nat_eq (take n xs) (take m ys)
same_padded room xs ys n m p q e =
    agree _ _
    (λ h. (bytes_decides (take n xs) (take m ys)).1 (rw (e, (bytes_decides xs ys).0 h) refl))
    (λ h. (bytes_decides xs ys).1 (sym (array_of_text room xs n p) ∙ ap (padded room) ((bytes_decides (take n xs) (take m ys)).0 h) ∙ array_of_text room ys m q))

zeros_behind : (t : List ℕ) (a b c : ℕ) → a + b ≡ c → (t ++ zeros a) ++ zeros b ≡ t ++ zeros c
zeros_behind t a b c e = append_assoc t (zeros a) (zeros b) ∙ ap (λ z. t ++ z) (replicate-append-replicate a b 0 ∙ ap zeros e)

-- zeros behind the array are more zeros behind the text
pub more_zeros : (room size : ℕ) (xs : List ℕ) (n : ℕ) → IsPadded room xs n → room ≤ size → xs ++ drop room (zeros size) ≡ padded size (take n xs)
more_zeros room size xs n h le =
    let ns : length (take n xs) ≡ n = length_padded room xs n h in
    (λ i. sym (array_of_text room xs n h) i ++ drop-replicate room size 0 i)
    ∙ zeros_behind (take n xs) (room - length (take n xs)) (size - room) (size - length (take n xs)) (omega (arith, ns, h.fits))
