-- The times of the last blocks, as one comes and one goes.
use Rattle.std.proofs.Common.{◌≡◌, ℕ, zero, suc, ◌+◌, ◌<◌, ◌≤◌, cond, ◌==◌, List, [], ◌∷◌, ◌++◌, length, take, map, min, Option, Some, None, IfSome, slice_get, refl, sym, ap, ◌∙◌, eq-eqb, arith}
use Rattle.std.specs.Option.{option_map, option_to_list}
use Rattle.std.proofs.lemmas.List.Sums.{sum_by-append, sum_by-cons}
use Rattle.dubp_time.specs.Median.{count_of, SameTimes}
use Rattle.dubp_chain.specs.declared.head.Head.{Head}

-- one time more or less on both sides
pub SameTimes-less : (t : ℕ) (old new others : List ℕ) → SameTimes old (t ∷ new) → SameTimes old (t ∷ others) → SameTimes new others
SameTimes-less t old new others removed was = record {
  each = λ m.
      omega (arith, removed.each m, was.each m, sum_by-cons (λ x. cond (x == m) 1 0) t new, sum_by-cons (λ x. cond (x == m) 1 0) t others);
}

pub SameTimes-more : (t : ℕ) (old new others : List ℕ) → SameTimes new (t ∷ old) → SameTimes old others → SameTimes new (t ∷ others)
SameTimes-more t old new others inserted was = record {
  each = λ m.
      omega (arith, inserted.each m, was.each m, sum_by-cons (λ x. cond (x == m) 1 0) t old, sum_by-cons (λ x. cond (x == m) 1 0) t others);
}

-- the time of the head that stands so many places behind the first
abbrev pub time_at : List Head → ℕ → Option ℕ
time_at list n = option_map (λ h. h.time) (slice_get list n)

abbrev pub times_of : ℕ → List Head → List ℕ
times_of n list = map (λ h. h.time) (take n list)

take_none : (n : ℕ) → times_of n [] ≡ []
take_none zero = refl
take_none (suc n) = refl

-- one place more has the time at that place besides
count-wider : (list : List Head) (n m : ℕ) → count_of m (times_of (suc n) list) ≡ count_of m (option_to_list (time_at list n) ++ times_of n list)
count-wider [] n m = ap (count_of m) (take_none (suc n)) ∙ sym (ap (count_of m) (take_none n))
count-wider (h ∷ list) zero m = refl
count-wider (h ∷ list) (suc n) m =
    let weigh : ℕ → ℕ = λ x. cond (x == m) 1 0 in
    omega (arith, sum_by-cons weigh h.time (times_of (suc n) list), sum_by-append weigh (option_to_list (time_at list n)) (h.time ∷ times_of n list), sum_by-append weigh (option_to_list (time_at list n)) (times_of n list), sum_by-cons weigh h.time (times_of n list), count-wider list n m)

pub SameTimes-wider : (times : List ℕ) (list : List Head) (n : ℕ) → SameTimes times (option_to_list (time_at list n) ++ times_of n list) → SameTimes times (times_of (suc n) list)
SameTimes-wider times list n same = record { each = λ m. same.each m ∙ sym (count-wider list n m) }

pub SameTimes-narrower : (times : List ℕ) (list : List Head) (n : ℕ) → SameTimes times (times_of (suc n) list) → SameTimes times (option_to_list (time_at list n) ++ times_of n list)
SameTimes-narrower times list n same = record { each = λ m. same.each m ∙ count-wider list n m }

-- there is a time at each place of the list, and none past it
pub length-time_at : (list : List Head) (n : ℕ) → min (suc n) (length list) ≡ min n (length list) + length (option_to_list (time_at list n))
length-time_at [] n = omega arith
length-time_at (h ∷ list) zero = omega arith
length-time_at (h ∷ list) (suc n) = omega (arith, length-time_at list n)

-- at most one
pub length-one : (o : Option ℕ) → length (option_to_list o) ≤ 1
length-one None = omega arith
length-one (Some t) = omega arith

own : (t : ℕ) → cond {A = ℕ} (t == t) 1 0 ≡ 1
own t = ap (λ b. cond {A = ℕ} b 1 0) (eq-eqb t t refl)

-- a time that is among them is there
pub count-among : (times : List ℕ) (o : Option ℕ) (others : List ℕ) → SameTimes times (option_to_list o ++ others) → IfSome o (λ t. 0 < count_of t times)
count-among times None others same = tt
count-among times (Some t) others same = omega (arith, same.each t, sum_by-cons (λ x. cond (x == t) 1 0) t others, own t)
