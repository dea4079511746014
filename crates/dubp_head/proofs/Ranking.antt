-- The counts that are not 0, the greatest first, as one of them changes by one, and their median.
use Rattle.std.proofs.Common.{◌≡◌, ◌≢◌, ℕ, zero, suc, ◌+◌, ◌-◌, ◌*◌, ◌/◌, ◌<◌, ◌≤◌, true, false, cond, ◌==◌, List, [], ◌∷◌, ◌++◌, length, get_or, set, reverse, replicate, Option, Some, None, IsSome, inl, inr, refl, ap, sym, subst, ◌∙◌, true≢false, nat_lt, nat_le, eq-eqb, arith}
use Rattle.std.specs.Option.{option_to_list, unwrap_or}
use Rattle.std.specs.List.Sorted.{IsNonDecreasing, IsPartitionPoint, IsPartitionedBy}
use Rattle.std.proofs.lemmas.Bool.{cases_lt, ltb-true, ltb-false, leb-true, leb-false, lt-ltb, le-leb}
use Rattle.std.proofs.lemmas.Bool.Decides.{nat_tests}
use Rattle.std.proofs.lemmas.List.{get_or-set_other, get_or-set_same, length-set, length-append, length-replicate, length-reverse, length-map, get_or-reverse, get_or-map, get_or_default, get_or_push}
use Rattle.std.proofs.Math.ListN.{get_or-append}
use Rattle.std.proofs.lemmas.List.Sums.{sum_by-set, sum_by-append, sum_by-cons, sum_by_push}
use Rattle.std.proofs.lemmas.List.Folds.{sum_by-replicate}
use Rattle.std.proofs.lemmas.List.Sorted.{IsPermutation-reverse}
use Rattle.dubp_time.specs.Median.{count_of, SameTimes, median_of}
use Rattle.dubp_time.proofs.MedianLaws.{SameTimes_length, stands_at, median_of_rising}
use Rattle.dubp_chain.specs.Heads.{doubled_median}
use Rattle.dubp_head.specs.Counts.{IsFalling, IsFirstPlace, IsLastPlace, IsRankedOf}
use Rattle.dubp_head.proofs.Doubling.{doubles, doubled_median-permutation, median_of-doubles}

-- How often each number stands in a list, as one of its numbers is set.

count-set : (n : ℕ) (xs : List ℕ) (i y x : ℕ) → i < length xs → get_or xs i 0 ≡ x → count_of n (set xs i y) + cond (x == n) 1 0 ≡ count_of n xs + cond (y == n) 1 0
count-set n xs i y x lt is = ap (λ z. count_of n (set xs i y) + cond (z == n) 1 0) (sym is) ∙ sum_by-set (λ t. cond (t == n) 1 0) xs i y 0 lt

other : (a b : ℕ) → a ≢ b → cond {A = ℕ} (a == b) 1 0 ≡ 0
other a b ne = grind (arith, nat_tests)

own : (a : ℕ) → cond {A = ℕ} (a == a) 1 0 ≡ 1
own a = ap (λ b. cond {A = ℕ} b 1 0) (eq-eqb a a refl)

-- A count that stands somewhere is ranked.

pub ranked_there : (r cs : List ℕ) (i c : ℕ) → IsRankedOf r cs → i < length cs → get_or cs i 0 ≡ c → 0 < c → 0 < count_of c r
ranked_there r cs i c ranked lt is some =
    omega (arith, ranked.each c some, subst (λ n. 0 < count_of n cs) is (stands_at cs i 0 lt))

-- as many are left out as are 0
length_ranked : (r cs : List ℕ) → IsRankedOf r cs → count_of 0 cs + length r ≡ length cs
length_ranked r cs ranked =
    let zeros = replicate (count_of 0 cs) 0 in
    let same : SameTimes (zeros ++ r) cs = record { each = λ n. sum_by-append (λ t. cond (t == n) 1 0) zeros r ∙ ap (λ m. m + count_of n r) (sum_by-replicate (λ t. cond (t == n) 1 0) (count_of 0 cs) 0) ∙ by n } in
    omega (arith, SameTimes_length (zeros ++ r) cs same, length-append zeros r, length-replicate {A = ℕ} (count_of 0 cs) 0)
  where
    by : (n : ℕ) → count_of 0 cs * cond (0 == n) 1 0 + count_of n r ≡ count_of n cs
    by zero = ap (λ m. count_of 0 cs * m + count_of 0 r) (own 0) ∙ omega (arith, ranked.none)
    by (suc n) = ap (λ m. count_of 0 cs * m + count_of (suc n) r) (other 0 (suc n) (λ e. absurd (omega (arith, e)))) ∙ omega (arith, ranked.each (suc n) (omega arith))

-- so there is room for one more where one is 0
pub ranked_fewer : (r cs : List ℕ) (i : ℕ) → IsRankedOf r cs → i < length cs → get_or cs i 0 ≡ 0 → length r < length cs
ranked_fewer r cs i ranked lt is =
    omega (arith, length_ranked r cs ranked, subst (λ n. 0 < count_of n cs) is (stands_at cs i 0 lt))

-- none that is ranked is 0
ranked_some : (r cs : List ℕ) (k : ℕ) → IsRankedOf r cs → k < length r → 0 < get_or r k 0
ranked_some r cs k ranked lt = elim (cases_lt 0 (get_or r k 0)) [ inl more ↦ more | inr none ↦ absurd (omega (arith, ranked.none, subst (λ n. 0 < count_of n r) {y = 0} (omega (arith, none)) (stands_at r k 0 lt))) ]

-- A count that is 0 comes or goes.

zero_last : (n : ℕ) (cs : List ℕ) → 0 < n → count_of n (cs ++ 0 ∷ []) ≡ count_of n cs
zero_last n cs more =
    omega (arith, sum_by_push (λ t. cond (t == n) 1 0) cs 0, other 0 n (λ e. absurd (omega (arith, e, more))))

pub ranked_zero : (r cs : List ℕ) → IsRankedOf r cs → IsRankedOf r (cs ++ 0 ∷ [])
ranked_zero r cs ranked =
    record { falling = ranked.falling; none = ranked.none; each = λ n more. ranked.each n more ∙ sym (zero_last n cs more) }

pub ranked_unzero : (r cs : List ℕ) → IsRankedOf r (cs ++ 0 ∷ []) → IsRankedOf r cs
ranked_unzero r cs ranked =
    record { falling = ranked.falling; none = ranked.none; each = λ n more. ranked.each n more ∙ zero_last n cs more }

-- One number is set.

at_set : (r : List ℕ) (place y k : ℕ) → place < length r → k ≡ place → get_or (set r place y) k 0 ≡ y
at_set r place y k lt is = ap (λ j. get_or (set r place y) j 0) is ∙ get_or-set_same r place y 0 lt

-- the first place of a number may rise by one
falling_raised : (r : List ℕ) (c place : ℕ) → IsFalling r → IsFirstPlace r c place → IsFalling (set r place (c + 1))
falling_raised r c place falls first i j le lt =
    let new = set r place (c + 1) in
    let within : j < length r = omega (arith, lt, length-set r place (c + 1)) in
    let here : (k : ℕ) → k ≡ place → get_or new k 0 ≡ c + 1 = λ k is. at_set r place (c + 1) k first.within is in
    let there : (k : ℕ) → k ≢ place → get_or new k 0 ≡ get_or r k 0 = λ k ne. get_or-set_other r place k (c + 1) 0 ne in
    grind (arith, here i, here j, there i, there j, falls i j le within, first.before i, first.is)

-- and the last place may fall by one
falling_lowered : (r : List ℕ) (c place : ℕ) → IsFalling r → IsLastPlace r c place → IsFalling (set r place (c - 1))
falling_lowered r c place falls last i j le lt =
    let new = set r place (c - 1) in
    let within : j < length r = omega (arith, lt, length-set r place (c - 1)) in
    let here : (k : ℕ) → k ≡ place → get_or new k 0 ≡ c - 1 = λ k is. at_set r place (c - 1) k last.within is in
    let there : (k : ℕ) → k ≢ place → get_or new k 0 ≡ get_or r k 0 = λ k ne. get_or-set_other r place k (c - 1) 0 ne in
    grind (arith, here i, here j, there i, there j, falls i j le within, last.behind j, last.is)

module _ (r cs : List ℕ) (i c : ℕ) (ranked : IsRankedOf r cs) (lt : i < length cs) (is : get_or cs i 0 ≡ c) where
  -- a count rises
  pub ranked_raised : (place : ℕ) → IsFirstPlace r c place → 0 < c → IsRankedOf (set r place (c + 1)) (set cs i (c + 1))
  ranked_raised place first some = record {
    falling = falling_raised r c place ranked.falling first;
    none = omega (arith, count-set 0 r place (c + 1) c first.within first.is, other (c + 1) 0 (λ e. absurd (omega (arith, e))), ranked.none);
    each = λ n more.
        omega (arith, count-set n r place (c + 1) c first.within first.is, count-set n cs i (c + 1) c lt is, ranked.each n more);
  }

  -- the first block of an issuer
  pub ranked_first : c ≡ 0 → IsRankedOf (r ++ 1 ∷ []) (set cs i (c + 1))
  ranked_first zero_is = record {
    falling = λ a b le within. falls a b le within;
    none = omega (arith, sum_by_push (λ t. cond (t == 0) 1 0) r 1, ranked.none);
    each = λ n more.
        omega (arith, sum_by_push (λ t. cond (t == n) 1 0) r 1, count-set n cs i (c + 1) c lt is, ranked.each n more, other c n (λ e. absurd (omega (arith, e, zero_is, more))), ap {B = ℕ} (λ x. cond {A = ℕ} (x + 1 == n) 1 0) zero_is);
  }
    where
      at : (k : ℕ) → k < length r → get_or (r ++ 1 ∷ []) k 0 ≡ get_or r k 0
      at k within = get_or-append r (1 ∷ []) 0 k within

      end : (k : ℕ) → k ≡ length r → get_or (r ++ 1 ∷ []) k 0 ≡ 1
      end k e = get_or_push r 1 0 k (sym e)

      falls : IsFalling (r ++ 1 ∷ [])
      falls a b le within =
          grind (arith, at a, at b, end a, end b, ranked.falling a b le, ranked_some r cs a ranked, length-append r (1 ∷ []), within)

  -- a count falls
  pub ranked_lowered : (place : ℕ) → IsLastPlace r c place → 1 < c → IsRankedOf (set r place (c - 1)) (set cs i (c - 1))
  ranked_lowered place last some = record {
    falling = falling_lowered r c place ranked.falling last;
    none = omega (arith, count-set 0 r place (c - 1) c last.within last.is, other (c - 1) 0 (λ e. absurd (omega (arith, e, some))), ranked.none);
    each = λ n more.
        omega (arith, count-set n r place (c - 1) c last.within last.is, count-set n cs i (c - 1) c lt is, ranked.each n more);
  }

  -- the only block of an issuer goes: the last of the counts is 1
  pub ranked_last : (rest : List ℕ) (popped : Option ℕ) → c ≡ 1 → r ≡ rest ++ option_to_list popped → (0 < length r → IsSome popped) → IsRankedOf rest (set cs i (c - 1))
  ranked_last rest None one items there = absurd (true≢false (sym (there (some_ranked r (ranked_there r cs i c ranked lt is (omega (arith, one)))))))
    where
      some_ranked : (xs : List ℕ) → 0 < count_of c xs → 0 < length xs
      some_ranked [] some = absurd (omega (arith, some))
      some_ranked (x ∷ xs) some = omega arith
  ranked_last rest (Some v) one items there = record {
    falling = λ a b le within. falls a b le within;
    none = omega (arith, split 0, ranked.none);
    each = λ n more.
        omega (arith, split n, count-set n cs i (c - 1) c lt is, ranked.each n more, other (c - 1) n (λ e. absurd (omega (arith, e, one, more))), ap {B = ℕ} (λ x. cond {A = ℕ} (x == n) 1 0) v_is);
  }
    where
      split : (n : ℕ) → count_of n r ≡ count_of n rest + cond (v == n) 1 0
      split n = ap (count_of n) items ∙ sum_by_push (λ t. cond (t == n) 1 0) rest v

      longer : length r ≡ length rest + 1
      longer = ap length items ∙ length-append rest (v ∷ [])

      at : (k : ℕ) → k < length rest → get_or rest k 0 ≡ get_or r k 0
      at k within = sym (ap (λ l. get_or l k 0) items ∙ get_or-append rest (v ∷ []) 0 k within)

      end : get_or r (length rest) 0 ≡ v
      end = ap (λ l. get_or l (length rest) 0) items ∙ get_or_push rest v 0 (length rest) refl

      falls : IsFalling rest
      falls a b le within =
          omega (arith, at a (omega (arith, le, within)), at b within, ranked.falling a b le (omega (arith, within, longer)))

      -- all are at least the last
      low : (xs : List ℕ) → ((k : ℕ) → k < length xs → v ≤ get_or xs k 0) → 0 < count_of c xs → v ≤ c
      low [] all some = absurd (omega (arith, some))
      low (x ∷ xs) all some =
          elim (x == c) as (λ b. (x == c) ≡ b → v ≤ c) [
            | true ↦ λ e. grind (arith, nat_tests, all 0 (omega arith))
            | false ↦ λ e. low xs (λ k within. all (suc k) (omega (arith, within))) (omega (arith, some, sum_by-cons (λ t. cond (t == c) 1 0) x xs, ap {B = ℕ} (λ b. cond {A = ℕ} b 1 0) e))
          ] refl

      v_is : v ≡ c
      v_is =
          omega (arith, one, end, ranked_some r cs (length rest) ranked (omega (arith, longer)), low r (λ k within. omega (arith, end, ranked.falling k (length rest) (omega (arith, within, longer)) (omega (arith, longer)))) (ranked_there r cs i c ranked lt is (omega (arith, one))))

-- Where a number stands in a falling list.

record StandsAt (xs : List ℕ) (t k : ℕ) : Type 0 where
  within : k < length xs
  is : get_or xs k 0 ≡ t

some_place : (t : ℕ) (xs : List ℕ) → 0 < count_of t xs → (k : ℕ) × StandsAt xs t k
some_place t [] some = absurd (omega (arith, some))
some_place t (x ∷ xs) some =
    elim (x == t) as (λ b. (x == t) ≡ b → (k : ℕ) × StandsAt (x ∷ xs) t k) [
      | true ↦ λ e. (0, record { within = omega arith; is = grind (arith, nat_tests) })
      | false ↦ λ e.
          let rest = some_place t xs (omega (arith, some, sum_by-cons (λ y. cond (y == t) 1 0) x xs, ap {B = ℕ} (λ b. cond {A = ℕ} b 1 0) e)) in
          let stands = rest.1 in
          (suc rest.0, record { within = omega (arith, stands.within); is = stands.is })
    ] refl

pub falling_parted : (xs : List ℕ) (t : ℕ) → IsFalling xs → IsPartitionedBy (λ y. nat_lt t y) xs
falling_parted xs t falls i j d le lt e =
    lt-ltb _ _ (omega (arith, ltb-true _ _ e, falls i j le lt, get_or_default xs i d 0 (omega (arith, le, lt)), get_or_default xs j d 0 lt))

pub falling_parted_le : (xs : List ℕ) (t : ℕ) → IsFalling xs → IsPartitionedBy (λ y. nat_le t y) xs
falling_parted_le xs t falls i j d le lt e =
    le-leb _ _ (omega (arith, leb-true _ _ e, falls i j le lt, get_or_default xs i d 0 (omega (arith, le, lt)), get_or_default xs j d 0 lt))

pub first_found : (xs : List ℕ) (t i : ℕ) → IsFalling xs → 0 < count_of t xs → i ≤ length xs → IsPartitionPoint (λ y. nat_lt t y ≡ true) (λ y. nat_lt t y ≡ false) xs i → IsFirstPlace xs t i
first_found xs t i falls there bound part =
    let found = some_place t xs there in
    let stands = found.1 in
    let above : (k : ℕ) → k < i → t < get_or xs k 0 = λ k lt. ltb-true _ _ (part.0 k 0 (omega arith) lt) in
    let not_above : (k : ℕ) → i ≤ k → k < length xs → get_or xs k 0 ≤ t = λ k le lt. ltb-false _ _ (part.1 k 0 le lt) in
    let not_before : found.0 < i → ⊥ = λ lt. omega (arith, above found.0 lt, stands.is) in
    let behind : i ≤ found.0 = omega (arith, not_before) in
    let within : i < length xs = omega (arith, behind, stands.within) in
    record {
      within = within;
      is = omega (arith, not_above i (omega arith) within, falls i found.0 behind stands.within, stands.is);
      before = above;
    }

-- the place before the first that is smaller
pub last_found : (xs : List ℕ) (t i : ℕ) → IsFalling xs → 0 < count_of t xs → i ≤ length xs → IsPartitionPoint (λ y. nat_le t y ≡ true) (λ y. nat_le t y ≡ false) xs i → (0 < i) × IsLastPlace xs t (i - 1)
last_found xs t i falls there bound part =
    let found = some_place t xs there in
    let stands = found.1 in
    let from : (k : ℕ) → k < i → t ≤ get_or xs k 0 = λ k lt. leb-true _ _ (part.0 k 0 (omega arith) lt) in
    let below : (k : ℕ) → i ≤ k → k < length xs → get_or xs k 0 < t = λ k le lt. leb-false _ _ (part.1 k 0 le lt) in
    let not_behind : i ≤ found.0 → ⊥ = λ le. omega (arith, below found.0 le stands.within, stands.is) in
    let before : found.0 < i = omega (arith, not_behind) in (
      omega (arith, before),
      record {
        within = omega (arith, before, bound);
        is = omega (arith, from (i - 1) (omega (arith, before)), falls found.0 (i - 1) (omega (arith, before)) (omega (arith, before, bound)), stands.is);
        behind = λ k lt within. below k (omega (arith, lt)) within;
      },
    )

-- The median of a falling list.

-- its doubles rise from its end
rising_doubles : (xs : List ℕ) → IsFalling xs → IsNonDecreasing (doubles (reverse xs))
rising_doubles xs falls i j d le lt =
    let long : length (doubles (reverse xs)) ≡ length xs = length-map (reverse xs) (λ n. 2 * n) ∙ length-reverse xs in
    omega (arith, at_end i d (omega (arith, le, lt, long)), at_end j d (omega (arith, lt, long)), falls (length xs - 1 - j) (length xs - 1 - i) (omega (arith, le)) (omega (arith, lt, long)))
  where
    at_end : (k d : ℕ) → k < length xs → get_or (doubles (reverse xs)) k d ≡ 2 * get_or xs (length xs - 1 - k) 0
    at_end k d within =
        get_or-map (λ n. 2 * n) (reverse xs) k 0 d (omega (arith, within, length-reverse xs)) ∙ ap (λ n. 2 * n) (get_or-reverse xs k 0 within)

doubled_at : (xs : List ℕ) (k : ℕ) → k < length xs → get_or (doubles (reverse xs)) k 0 ≡ 2 * get_or xs (length xs - 1 - k) 0
doubled_at xs k within =
    get_or-map (λ n. 2 * n) (reverse xs) k 0 0 (omega (arith, within, length-reverse xs)) ∙ ap (λ n. 2 * n) (get_or-reverse xs k 0 within)

pub doubled_falling : (xs : List ℕ) → 0 < length xs → IsFalling xs → get_or xs ((length xs - 1) / 2) 0 + get_or xs (length xs / 2) 0 ≡ doubled_median xs
doubled_falling xs some falls =
    let n = length xs in
    let all = doubles (reverse xs) in
    let long : length all ≡ n = length-map (reverse xs) (λ m. 2 * m) ∙ length-reverse xs in
    let low : get_or all ((length all - 1) / 2) 0 ≡ 2 * get_or xs (n / 2) 0 =
    ap (λ m. get_or all ((m - 1) / 2) 0) long ∙ doubled_at xs ((n - 1) / 2) (omega (arith, some)) ∙ ap (λ k. 2 * get_or xs k 0) (omega (arith, some)) in
    let high : get_or all (length all / 2) 0 ≡ 2 * get_or xs ((n - 1) / 2) 0 =
    ap (λ m. get_or all (m / 2) 0) long ∙ doubled_at xs (n / 2) (omega (arith, some)) ∙ ap (λ k. 2 * get_or xs k 0) (omega (arith, some)) in
    let middle : unwrap_or (median_of all) 0 ≡ (get_or all ((length all - 1) / 2) 0 + get_or all (length all / 2) 0) / 2 =
    ap (λ o. unwrap_or o 0) (median_of_rising all (omega (arith, long, some)) (rising_doubles xs falls)) in
    omega (arith, low, high)
    ∙ sym middle
    ∙ sym (median_of-doubles (reverse xs))
    ∙ sym (doubled_median-permutation xs (reverse xs) (IsPermutation-reverse xs))

pub doubled_none : (xs : List ℕ) → length xs ≡ 0 → 0 ≡ doubled_median xs
doubled_none [] none = refl
doubled_none (x ∷ xs) none = absurd (omega (arith, none))
