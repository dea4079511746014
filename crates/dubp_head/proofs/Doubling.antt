-- Twice the median of some numbers is the median of their doubles, so it depends only on how often each number is there.
use Rattle.std.proofs.Common.{◌≡◌, ℕ, ◌+◌, ◌-◌, ◌*◌, ◌/◌, Bool, true, false, cond, ◌&&◌, ◌==◌, List, [], ◌∷◌, map, Some, length, find, unwrap_or, refl, ap, sym, ◌∙◌, nat_lt, nat_le, arith, IsPermutation, inl, inr}
use Rattle.std.proofs.lemmas.Bool.{cases_lt}
use Rattle.std.proofs.lemmas.Bool.Decides.{nat_tests}
use Rattle.std.proofs.lemmas.List.{length-map}
use Rattle.std.proofs.lemmas.List.Sums.{sum_by-cons}
use Rattle.dubp_time.specs.Median.{count_of, count_below, count_up_to, has_rank, ranked, mean_of_middle, median_of, SameTimes}
use Rattle.dubp_time.proofs.MedianLaws.{median_of_same, SameTimes_permutation}
use Rattle.dubp_chain.specs.Heads.{doubled_median}

abbrev pub doubles : List ℕ → List ℕ
doubles ns = map (λ n. 2 * n) ns

below_double : (t m : ℕ) → cond {A = ℕ} (nat_lt (2 * t) (2 * m)) 1 0 ≡ cond (nat_lt t m) 1 0
below_double t m = grind (arith, nat_tests)

up_to_double : (t m : ℕ) → cond {A = ℕ} (nat_le (2 * t) (2 * m)) 1 0 ≡ cond (nat_le t m) 1 0
up_to_double t m = grind (arith, nat_tests)

count_below-doubles : (m : ℕ) (ns : List ℕ) → count_below (2 * m) (doubles ns) ≡ count_below m ns
count_below-doubles m [] = refl
count_below-doubles m (n ∷ ns) =
    omega (arith, sum_by-cons (λ t. cond (nat_lt t (2 * m)) 1 0) (2 * n) (doubles ns), sum_by-cons (λ t. cond (nat_lt t m) 1 0) n ns, below_double n m, count_below-doubles m ns)

count_up_to-doubles : (m : ℕ) (ns : List ℕ) → count_up_to (2 * m) (doubles ns) ≡ count_up_to m ns
count_up_to-doubles m [] = refl
count_up_to-doubles m (n ∷ ns) =
    omega (arith, sum_by-cons (λ t. cond (nat_le t (2 * m)) 1 0) (2 * n) (doubles ns), sum_by-cons (λ t. cond (nat_le t m) 1 0) n ns, up_to_double n m, count_up_to-doubles m ns)

has_rank-doubles : (ns : List ℕ) (j m : ℕ) → has_rank (doubles ns) j (2 * m) ≡ has_rank ns j m
has_rank-doubles ns j m =
    ap (λ n. nat_le n j && nat_lt j (count_up_to (2 * m) (doubles ns))) (count_below-doubles m ns)
    ∙ ap (λ n. nat_le (count_below m ns) j && nat_lt j n) (count_up_to-doubles m ns)

find-doubles : (p q : ℕ → Bool) → ((m : ℕ) → p (2 * m) ≡ q m) → (ns : List ℕ) → unwrap_or (find p (doubles ns)) 0 ≡ 2 * unwrap_or (find q ns) 0
find-doubles p q same [] = refl
find-doubles p q same (n ∷ ns) =
    ap (λ b. unwrap_or (cond b (Some (2 * n)) (find p (doubles ns))) 0) (same n)
    ∙ elim (q n) as (λ b. unwrap_or (cond b (Some (2 * n)) (find p (doubles ns))) 0 ≡ 2 * unwrap_or (cond b (Some n) (find q ns)) 0) [
      | true ↦ refl
      | false ↦ find-doubles p q same ns
    ]

ranked-doubles : (ns : List ℕ) (j : ℕ) → ranked (doubles ns) j ≡ 2 * ranked ns j
ranked-doubles ns j = find-doubles (has_rank (doubles ns) j) (has_rank ns j) (has_rank-doubles ns j) ns

mean_of-doubles : (ns : List ℕ) → mean_of_middle (doubles ns) ≡ doubled_median ns
mean_of-doubles ns =
    let n = length ns in
    ap (λ k. (ranked (doubles ns) ((k - 1) / 2) + ranked (doubles ns) (k / 2)) / 2) (length-map ns (λ m. 2 * m))
    ∙ omega (arith, ranked-doubles ns ((n - 1) / 2), ranked-doubles ns (n / 2))

pub median_of-doubles : (ns : List ℕ) → doubled_median ns ≡ unwrap_or (median_of (doubles ns)) 0
median_of-doubles [] = refl
median_of-doubles (n ∷ ns) = sym (mean_of-doubles (n ∷ ns))

even_doubles : (m h : ℕ) (xs : List ℕ) → m ≡ 2 * h → count_of m (doubles xs) ≡ count_of h xs
even_doubles m h [] is = refl
even_doubles m h (x ∷ xs) is =
    omega (arith, sum_by-cons (λ t. cond (t == m) 1 0) (2 * x) (doubles xs), sum_by-cons (λ t. cond (t == h) 1 0) x xs, one, even_doubles m h xs is)
  where
    one : cond {A = ℕ} (2 * x == m) 1 0 ≡ cond (x == h) 1 0
    one = grind (arith, nat_tests)

odd_doubles : (m h : ℕ) (xs : List ℕ) → m ≡ 2 * h + 1 → count_of m (doubles xs) ≡ 0
odd_doubles m h [] is = refl
odd_doubles m h (x ∷ xs) is =
    omega (arith, sum_by-cons (λ t. cond (t == m) 1 0) (2 * x) (doubles xs), none, odd_doubles m h xs is)
  where
    none : cond {A = ℕ} (2 * x == m) 1 0 ≡ 0
    none = grind (arith, nat_tests)

same_doubles : (ms ns : List ℕ) → SameTimes ms ns → (m : ℕ) → count_of m (doubles ms) ≡ count_of m (doubles ns)
same_doubles ms ns same m =
    let h = m / 2 in
    elim (cases_lt (2 * h) m) [
      | inl odd ↦ odd_doubles m h ms (omega (arith, odd)) ∙ sym (odd_doubles m h ns (omega (arith, odd)))
      | inr even ↦ even_doubles m h ms (omega (arith, even)) ∙ same.each h ∙ sym (even_doubles m h ns (omega (arith, even)))
    ]

pub doubled_median-same : (ms ns : List ℕ) → SameTimes ms ns → doubled_median ms ≡ doubled_median ns
doubled_median-same ms ns same =
    median_of-doubles ms ∙ ap (λ o. unwrap_or o 0) (median_of_same (doubles ms) (doubles ns) (record { each = same_doubles ms ns same })) ∙ sym (median_of-doubles ns)

-- the order does not matter
pub doubled_median-permutation : (ms ns : List ℕ) → IsPermutation ms ns → doubled_median ms ≡ doubled_median ns
doubled_median-permutation ms ns moved = doubled_median-same ms ns (SameTimes_permutation ms ns moved)
