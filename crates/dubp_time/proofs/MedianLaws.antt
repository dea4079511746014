-- Laws of the median: it depends only on how often each time stands in the list, and of times in rising
-- order it is the mean of the middle two.
use Rattle.std.proofs.Common.{◌≡◌, ℕ, zero, suc, ◌+◌, ◌-◌, ◌/◌, ◌<◌, ◌≤◌, Bool, true, false, cond, ◌&&◌, ◌==◌, List, [], ◌∷◌, ◌++◌, Some, None, length, get_or, slice_index, slice_index_or, find, unwrap_or, refl, ap, sym, ◌∙◌, nat_lt, nat_le, arith, ltb-true, lt-ltb, true≢false, subst, IsPermutation}
use Rattle.std.specs.List.{AllByRecursion}
use Rattle.std.specs.List.Sorted.{IsNonDecreasing}
use Rattle.std.proofs.lemmas.Bool.{leb-true, le-leb, le-ltb}
use Rattle.std.proofs.lemmas.Bool.Decides.{nat_tests}
use Rattle.std.proofs.lemmas.List.Sums.{sum_by-cons, sum_by-le-sum_by}
use Rattle.std.proofs.lemmas.List.Sorted.{sum_by-IsPermutation, IsPermutation-to_front}
use Rattle.dubp_time.specs.Median.{count_of, count_below, count_up_to, has_rank, ranked, mean_of_middle, median_of, SameTimes}

-- Counts of one list: of the times below m, at most m, and of all.

below_suc : (x m : ℕ) → cond (nat_lt x (suc m)) 1 0 ≡ cond (nat_lt x m) 1 0 + cond (x == m) 1 0
below_suc x m = grind (arith, nat_tests)

up_to_is : (x m : ℕ) → cond (nat_le x m) 1 0 ≡ cond (nat_lt x m) 1 0 + cond (x == m) 1 0
up_to_is x m = grind (arith, nat_tests)

count_below-suc : (m : ℕ) (xs : List ℕ) → count_below (suc m) xs ≡ count_below m xs + count_of m xs
count_below-suc m [] = refl
count_below-suc m (x ∷ xs) =
    omega (arith, sum_by-cons (λ t. cond (nat_lt t (suc m)) 1 0) x xs, sum_by-cons (λ t. cond (nat_lt t m) 1 0) x xs, sum_by-cons (λ t. cond (t == m) 1 0) x xs, below_suc x m, count_below-suc m xs)

count_up_to-is : (m : ℕ) (xs : List ℕ) → count_up_to m xs ≡ count_below m xs + count_of m xs
count_up_to-is m [] = refl
count_up_to-is m (x ∷ xs) =
    omega (arith, sum_by-cons (λ t. cond (nat_le t m) 1 0) x xs, sum_by-cons (λ t. cond (nat_lt t m) 1 0) x xs, sum_by-cons (λ t. cond (t == m) 1 0) x xs, up_to_is x m, count_up_to-is m xs)

not_below_zero : (x : ℕ) → cond {A = ℕ} (nat_lt x 0) 1 0 ≡ 0
not_below_zero x = grind (arith, nat_tests)

none_below_zero : (xs : List ℕ) → count_below 0 xs ≡ 0
none_below_zero [] = refl
none_below_zero (x ∷ xs) = sum_by-cons (λ t. cond (nat_lt t 0) 1 0) x xs ∙ omega (arith, not_below_zero x, none_below_zero xs)

-- a bound that no time of the list reaches
over : List ℕ → ℕ
over [] = 1
over (x ∷ xs) = x + over xs

over_positive : (xs : List ℕ) → 0 < over xs
unfolding over
over_positive [] = omega arith
over_positive (x ∷ xs) = omega (arith, over_positive xs)

all_below : (m : ℕ) (xs : List ℕ) → over xs ≤ m → count_below m xs ≡ length xs
unfolding over
all_below m [] bound = refl
all_below m (x ∷ xs) bound =
    let rest : over xs ≤ m = omega arith in
    let first : nat_lt x m ≡ true = lt-ltb x m (omega (arith, over_positive xs)) in
    sum_by-cons (λ t. cond (nat_lt t m) 1 0) x xs ∙ ap (λ b. cond b 1 0 + count_below m xs) first ∙ omega (arith, all_below m xs rest)

-- Lists with the same times have the same counts.

below_same : (xs ys : List ℕ) → SameTimes xs ys → (m : ℕ) → count_below m xs ≡ count_below m ys
below_same xs ys same zero = none_below_zero xs ∙ sym (none_below_zero ys)
below_same xs ys same (suc m) =
    omega (arith, count_below-suc m xs, count_below-suc m ys, same.each m, below_same xs ys same m)

up_to_same : (xs ys : List ℕ) → SameTimes xs ys → (m : ℕ) → count_up_to m xs ≡ count_up_to m ys
up_to_same xs ys same m =
    omega (arith, count_up_to-is m xs, count_up_to-is m ys, same.each m, below_same xs ys same m)

pub SameTimes_length : (xs ys : List ℕ) → SameTimes xs ys → length xs ≡ length ys
SameTimes_length xs ys same =
    let m = over xs + over ys in
    omega (arith, all_below m xs (omega arith), all_below m ys (omega arith), below_same xs ys same m)

has_rank_same : (xs ys : List ℕ) → SameTimes xs ys → (j m : ℕ) → has_rank xs j m ≡ has_rank ys j m
has_rank_same xs ys same j m =
    ap (λ n. nat_le n j && nat_lt j (count_up_to m xs)) (below_same xs ys same m) ∙ ap (λ n. nat_le (count_below m ys) j && nat_lt j n) (up_to_same xs ys same m)

-- One number at most has a rank: of two, the greater would have too many below it.

fewer : (m n : ℕ) → m < n → (x : ℕ) → cond (nat_le x m) 1 0 ≤ cond (nat_lt x n) 1 0
fewer m n lt x = grind (arith, nat_tests)

not_above : (xs : List ℕ) (j m n : ℕ) → m < n → j < count_up_to m xs → count_below n xs ≤ j → ⊥
not_above xs j m n lt more few =
    omega (arith, sum_by-le-sum_by (λ x. cond (nat_le x m) 1 0) (λ x. cond (nat_lt x n) 1 0) xs (fewer m n lt), more, few)

and_left : (p q : Bool) → (p && q) ≡ true → p ≡ true
and_left true q e = refl
and_left false q e = e

and_right : (p q : Bool) → (p && q) ≡ true → q ≡ true
and_right true q e = e
and_right false q e = absurd (true≢false (sym e))

rank_parts : (xs : List ℕ) (j m : ℕ) → has_rank xs j m ≡ true → (count_below m xs ≤ j) × (j < count_up_to m xs)
rank_parts xs j m h =
    (leb-true _ _ (and_left _ _ h), ltb-true _ _ (and_right (nat_le (count_below m xs) j) _ h))

one_rank : (xs : List ℕ) (j m n : ℕ) → has_rank xs j m ≡ true → has_rank xs j n ≡ true → m ≡ n
one_rank xs j m n h k =
    let p = rank_parts xs j m h in
    let q = rank_parts xs j n k in
    let not_less : m < n → ⊥ = λ lt. not_above xs j m n lt p.1 q.0 in
    let not_more : n < m → ⊥ = λ lt. not_above xs j n m lt q.1 p.0 in
    omega (arith, not_less, not_more)

-- What a search finds depends on the times alone, where its test passes one number at most.

pub count_of-cons : (m x : ℕ) (xs : List ℕ) → count_of m (x ∷ xs) ≡ cond (x == m) 1 0 + count_of m xs
count_of-cons m x xs = sum_by-cons (λ t. cond (t == m) 1 0) x xs

-- m passes the test and stands in the list
record Passes (p : ℕ → Bool) (xs : List ℕ) (m : ℕ) : Type 0 where
  passes : p m ≡ true
  stands : 0 < count_of m xs

-- what is found passes the test and stands in the list
found_passes : (p : ℕ → Bool) (xs : List ℕ) (m : ℕ) → find p xs ≡ Some m → Passes p xs m
found_passes p [] m e = cc
found_passes p (x ∷ xs) m e =
    elim (p x) as (λ b. p x ≡ b → cond b (Some x) (find p xs) ≡ Some m → Passes p (x ∷ xs) m) [
      | true ↦ λ is here.
          let same : x ≡ m = cc in
          record { passes = subst (λ n. p n ≡ true) same is; stands = grind (arith, nat_tests, count_of-cons m x xs) }
      | false ↦ λ _ later.
          let rest = found_passes p xs m later in
          record { passes = rest.passes; stands = omega (arith, count_of-cons m x xs, rest.stands) }
    ] refl e

-- where nothing is found, nothing in the list passes
none_passes : (p : ℕ → Bool) (xs : List ℕ) (m : ℕ) → find p xs ≡ None → ¬ Passes p xs m
none_passes p [] m e there = absurd (omega (arith, there.stands))
none_passes p (x ∷ xs) m e there =
    elim (p x) as (λ b. p x ≡ b → cond b (Some x) (find p xs) ≡ None → ⊥) [
      | true ↦ λ _ here. cc
      | false ↦ λ is later.
          let other : x ≡ m → ⊥ = λ same. true≢false (sym there.passes ∙ ap p (sym same) ∙ is) in
          none_passes p xs m later (record { passes = there.passes; stands = grind (arith, nat_tests, count_of-cons m x xs, there.stands, other) })
    ] refl e

-- a test that passes the same on the same times finds the same, where it passes one number at most
find_same : (p q : ℕ → Bool) (xs ys : List ℕ) → ((m : ℕ) → p m ≡ q m) → ((m n : ℕ) → q m ≡ true → q n ≡ true → m ≡ n) → SameTimes xs ys → find p xs ≡ find q ys
find_same p q xs ys like one same =
    elim (find p xs) as (λ r. find p xs ≡ r → r ≡ find q ys) [
      | None ↦ λ none. elim (find q ys) as (λ s. find q ys ≡ s → None ≡ s) [
        | None ↦ λ _. refl
        | Some n ↦ λ some.
            let there = found_passes q ys n some in
            absurd (none_passes p xs n none (record { passes = like n ∙ there.passes; stands = subst (λ c. 0 < c) (sym (same.each n)) there.stands }))
      ] refl
      | Some m ↦ λ some. elim (find q ys) as (λ s. find q ys ≡ s → Some m ≡ s) [
        | None ↦ λ none.
            let there = found_passes p xs m some in
            absurd (none_passes q ys m none (record { passes = sym (like m) ∙ there.passes; stands = subst (λ c. 0 < c) (same.each m) there.stands }))
        | Some n ↦ λ other.
            ap Some (one m n (sym (like m) ∙ (found_passes p xs m some).passes) (found_passes q ys n other).passes)
      ] refl
    ] refl

ranked_same : (xs ys : List ℕ) (j : ℕ) → SameTimes xs ys → ranked xs j ≡ ranked ys j
ranked_same xs ys j same =
    ap (λ r. unwrap_or r 0) (find_same (has_rank xs j) (has_rank ys j) xs ys (has_rank_same xs ys same j) (one_rank ys j) same)

mean_same : (xs ys : List ℕ) → SameTimes xs ys → mean_of_middle xs ≡ mean_of_middle ys
mean_same xs ys same =
    let low = ranked_same xs ys ((length xs - 1) / 2) same in
    let high = ranked_same xs ys (length xs / 2) same in
    let n = SameTimes_length xs ys same in
    ap (λ s. s / 2) (ap (λ r. r + ranked xs (length xs / 2)) low ∙ ap (λ r. ranked ys ((length xs - 1) / 2) + r) high) ∙ ap (λ k. (ranked ys ((k - 1) / 2) + ranked ys (k / 2)) / 2) n

-- the median is that of the times, however often their order changes
pub median_of_same : (xs ys : List ℕ) → SameTimes xs ys → median_of xs ≡ median_of ys
median_of_same [] [] same = refl
median_of_same [] (y ∷ ys) same = absurd (omega (arith, SameTimes_length [] (y ∷ ys) same))
median_of_same (x ∷ xs) [] same = absurd (omega (arith, SameTimes_length (x ∷ xs) [] same))
median_of_same (x ∷ xs) (y ∷ ys) same = ap Some (mean_same (x ∷ xs) (y ∷ ys) same)

-- another order has the same times
pub SameTimes_permutation : (xs ys : List ℕ) → IsPermutation xs ys → SameTimes xs ys
SameTimes_permutation xs ys moved =
    record { each = λ m. sym (sum_by-IsPermutation (λ t. cond (t == m) 1 0) xs ys moved) }

pub median_of_permutation : (xs ys : List ℕ) → IsPermutation xs ys → median_of xs ≡ median_of ys
median_of_permutation xs ys moved = median_of_same xs ys (SameTimes_permutation xs ys moved)

-- the same time may be put to both, and taken from both
pub SameTimes_cons : (t : ℕ) (xs ys : List ℕ) → SameTimes xs ys → SameTimes (t ∷ xs) (t ∷ ys)
SameTimes_cons t xs ys same =
    record { each = λ m. omega (arith, count_of-cons m t xs, count_of-cons m t ys, same.each m) }

pub SameTimes_tail : (t : ℕ) (xs ys : List ℕ) → SameTimes (t ∷ xs) (t ∷ ys) → SameTimes xs ys
SameTimes_tail t xs ys same =
    record { each = λ m. omega (arith, count_of-cons m t xs, count_of-cons m t ys, same.each m) }

pub SameTimes_sym : (xs ys : List ℕ) → SameTimes xs ys → SameTimes ys xs
SameTimes_sym xs ys same = record { each = λ m. sym (same.each m) }

pub SameTimes_trans : (xs ys zs : List ℕ) → SameTimes xs ys → SameTimes ys zs → SameTimes xs zs
SameTimes_trans xs ys zs same also = record { each = λ m. same.each m ∙ also.each m }

-- a time at the end may as well stand first
pub SameTimes_last : (xs : List ℕ) (t : ℕ) → SameTimes (xs ++ t ∷ []) (t ∷ xs)
SameTimes_last xs t = SameTimes_permutation _ _ (IsPermutation-to_front xs t)

-- what stands at a place is among the times
pub stands_at : (xs : List ℕ) (j d : ℕ) → j < length xs → 0 < count_of (slice_index_or xs j d) xs
stands_at [] j d lt = absurd (omega arith)
stands_at (x ∷ xs) zero d lt = grind (arith, nat_tests, count_of-cons x x xs)
stands_at (x ∷ xs) (suc j) d lt =
    omega (arith, count_of-cons (slice_index_or xs j d) x xs, stands_at xs j d (omega arith))

-- In rising order, as many times stand before a place as its number says.

Ascends : List ℕ → Type 0
Ascends [] = Unit {0}
Ascends (x ∷ xs) = AllByRecursion (λ y. x ≤ y) xs × Ascends xs

each_at : (x : ℕ) (xs : List ℕ) → ((k d : ℕ) → k < length xs → x ≤ get_or xs k d) → AllByRecursion (λ y. x ≤ y) xs
each_at x [] all = tt
each_at x (y ∷ xs) all = (all 0 0 (omega arith), each_at x xs (λ k d lt. all (suc k) d (omega arith)))

ascends_from_rising : (xs : List ℕ) → IsNonDecreasing xs → Ascends xs
unfolding Ascends
ascends_from_rising [] rising = tt
ascends_from_rising (x ∷ xs) rising =
    (each_at x xs (λ k d lt. rising 0 (suc k) d (omega arith) (omega arith)), ascends_from_rising xs (λ i j d le lt. rising (suc i) (suc j) d (omega arith) (omega arith)))

-- none of a list that stays at or above m is below m
none_below : (m : ℕ) (xs : List ℕ) → AllByRecursion (λ y. m ≤ y) xs → count_below m xs ≡ 0
none_below m [] above = refl
none_below m (x ∷ xs) above =
    let h : nat_lt x m ≡ false = le-ltb _ _ above.0 in
    sum_by-cons (λ t. cond (nat_lt t m) 1 0) x xs ∙ ap (λ b. cond b 1 0 + count_below m xs) h ∙ omega (arith, none_below m xs above.1)

at_place : (P : ℕ → Type 0) (xs : List ℕ) (j : ℕ) → AllByRecursion P xs → j < length xs → P (get_or xs j 0)
at_place P [] j all lt = absurd (omega arith)
at_place P (x ∷ xs) zero all lt = all.0
at_place P (x ∷ xs) (suc j) all lt = at_place P xs j all.1 (omega arith)

one_or_none : (p : Bool) → cond p 1 0 ≤ 1
one_or_none true = omega arith
one_or_none false = omega arith

few_below : (xs : List ℕ) (j : ℕ) → Ascends xs → j < length xs → count_below (get_or xs j 0) xs ≤ j
unfolding Ascends
few_below [] j up lt = absurd (omega arith)
few_below (x ∷ xs) zero up lt = omega (arith, none_below x (x ∷ xs) (omega arith, up.0))
few_below (x ∷ xs) (suc j) up lt =
    omega (arith, sum_by-cons (λ t. cond (nat_lt t (get_or xs j 0)) 1 0) x xs, one_or_none (nat_lt x (get_or xs j 0)), few_below xs j up.1 (omega arith))

more_up_to : (xs : List ℕ) (j : ℕ) → Ascends xs → j < length xs → j < count_up_to (get_or xs j 0) xs
unfolding Ascends
more_up_to [] j up lt = absurd (omega arith)
more_up_to (x ∷ xs) zero up lt =
    let h : nat_le x x ≡ true = le-leb _ _ (omega arith) in
    omega (arith, sum_by-cons (λ t. cond (nat_le t x) 1 0) x xs, ap {B = ℕ} (λ b. cond b 1 0) h)
more_up_to (x ∷ xs) (suc j) up lt =
    let h : nat_le x (get_or xs j 0) ≡ true = le-leb _ _ (at_place (λ y. x ≤ y) xs j up.0 (omega arith)) in
    omega (arith, sum_by-cons (λ t. cond (nat_le t (get_or xs j 0)) 1 0) x xs, ap {B = ℕ} (λ b. cond b 1 0) h, more_up_to xs j up.1 (omega arith))

-- in a rising list the time of rank j is the one that stands at j
ranked-rising : (xs : List ℕ) (j : ℕ) → Ascends xs → j < length xs → ranked xs j ≡ slice_index xs j
ranked-rising xs j up lt =
    let m = get_or xs j 0 in
    let low : nat_le (count_below m xs) j ≡ true = le-leb _ _ (few_below xs j up lt) in
    let high : nat_lt j (count_up_to m xs) ≡ true = lt-ltb _ _ (more_up_to xs j up lt) in
    let has : has_rank xs j m ≡ true = rw (low, high) in
    elim (find (has_rank xs j) xs) as (λ r. find (has_rank xs j) xs ≡ r → unwrap_or r 0 ≡ m) [
      | None ↦ λ none. absurd (none_passes (has_rank xs j) xs m none (record { passes = has; stands = stands_at xs j 0 lt }))
      | Some n ↦ λ some. one_rank xs j n m (found_passes (has_rank xs j) xs n some).passes has
    ] refl

half_within : (n : ℕ) → 0 < n → n / 2 < n
half_within n some = omega arith

half_of_last_within : (n : ℕ) → 0 < n → (n - 1) / 2 < n
half_of_last_within n some = omega arith

-- of times in rising order the median is the mean of the middle two
pub median_of_rising : (xs : List ℕ) → 0 < length xs → IsNonDecreasing xs → median_of xs ≡ Some ((slice_index xs ((length xs - 1) / 2) + slice_index xs (length xs / 2)) / 2)
median_of_rising [] some rising = absurd (omega arith)
median_of_rising (x ∷ xs) some rising =
    let all = x ∷ xs in
    let up = ascends_from_rising all rising in
    let low = ranked-rising all ((length all - 1) / 2) up (half_of_last_within (length all) some) in
    let high = ranked-rising all (length all / 2) up (half_within (length all) some) in
    ap (λ s. Some (s / 2)) (ap (λ r. r + ranked all (length all / 2)) low ∙ ap (λ r. slice_index all ((length all - 1) / 2) + r) high)
