-- The values of heads that keep the limits are in bounds: those of a first head, those of one head more, and so all.
use Rattle.std.proofs.Common.{◌≡◌, ℕ, zero, suc, ◌+◌, ◌-◌, ◌*◌, ◌/◌, ◌^◌, ◌<◌, ◌≤◌, Bool, true, false, cond, List, [], ◌∷◌, map, take, Some, None, length, find, unwrap_or, refl, subst, sym, min, ℤ, pos, ◌+ℤ◌, ◌-ℤ◌, ◌*ℤ◌, ◌≤ℤ◌, nat_le, arith}
use Rattle.std.specs.Prelude.{⊤}
use Rattle.std.specs.List.{AllByRecursion}
use Rattle.std.proofs.lemmas.Int.{ints}
use Rattle.std.proofs.lemmas.List.{length-map, length-take}
use Rattle.std.proofs.lemmas.Bool.Decides.{nat_tests}
use Rattle.std.proofs.lemmas.Map.Made.{distinct_count-le}
use Rattle.dubp_atoms.specs.Same.{same_text}
use Rattle.dubp_params.specs.declared.params.Params.{Params}
use Rattle.dubp_params.specs.Ranges.{IsInRange}
use Rattle.dubp_time.specs.Median.{has_rank, ranked, median_of}
use Rattle.dubp_pow.specs.LeastDifficulty.{next_pow_min_of}
use Rattle.dubp_pow.specs.Frames.{next_var_of}
use Rattle.dubp_pow.proofs.Moves.{next_frame_of-least, next_frame_of-most, next_var_of-least, next_var_of-most}
use Rattle.dubp_block.specs.declared.block.Block.{Block}
use Rattle.dubp_chain.specs.declared.head.Head.{Head}
use Rattle.dubp_chain.specs.Heads.{newest, next_head, next_issuers, next_median_time, moved_on, is_reevaluated, elapsed_over}
use Rattle.dubp_head.specs.Bounds.{InBounds, IsSmall}
use Rattle.dubp_head.specs.Following.{MayFollow, KeepsLimits, AreHeads}

-- Numbers of a list below a bound.

pub take_all : {A : Type 0} (P : A → Type 0) (k : ℕ) (xs : List A) → AllByRecursion P xs → AllByRecursion P (take k xs)
take_all P zero xs all = tt
take_all P (suc k) [] all = tt
take_all P (suc k) (x ∷ xs) all = (all.0, take_all P k xs all.1)

pub found_among : {A : Type 0} (P : A → Type 0) (test : A → Bool) (xs : List A) (x : A) → AllByRecursion P xs → find test xs ≡ Some x → P x
found_among P test [] x all e = cc
found_among P test (y ∷ ys) x all e =
    elim (test y) as (λ b. cond b (Some y) (find test ys) ≡ Some x → P x) [
      | true ↦ λ here. let same : y ≡ x = cc in subst P same all.0
      | false ↦ λ later. found_among P test ys x all.1 later
    ] e

pub ranked_below : (m : ℕ) (ns : List ℕ) (j : ℕ) → 0 < m → AllByRecursion (λ n. n < m) ns → ranked ns j < m
ranked_below m ns j some all =
    elim (find (has_rank ns j) ns) as (λ o. find (has_rank ns j) ns ≡ o → unwrap_or o 0 < m) [
      | None ↦ λ _. some
      | Some n ↦ λ e. found_among (λ k. k < m) (has_rank ns j) ns n all e
    ] refl

median_below : (m : ℕ) (ns : List ℕ) → 0 < m → AllByRecursion (λ n. n < m) ns → unwrap_or (median_of ns) 0 < m
median_below m [] some all = some
median_below m (n ∷ ns) some all =
    let k = length (n ∷ ns) in
    omega (arith, ranked_below m (n ∷ ns) ((k - 1) / 2) some all, ranked_below m (n ∷ ns) (k / 2) some all)

times_below : (hs : List Head) (m : ℕ) → AllByRecursion (λ h. h.time < m) hs → AllByRecursion (λ n. n < m) (map (λ h. h.time) hs)
times_below [] m all = tt
times_below (h ∷ hs) m all = (all.0, times_below hs m all.1)

-- One step of single values.

next_pow_min-le : (before : ℕ) (moved : Bool) (range elapsed : ℕ) (p : Params) → next_pow_min_of before moved range elapsed p ≤ before + 2
next_pow_min-le before false range elapsed p = omega arith
next_pow_min-le before true range elapsed p = grind (arith, nat_tests)

moved_on-time : (step previous reached m : ℕ) → previous < m + m → reached < m → step < m → moved_on step previous reached < m + m
moved_on-time step previous reached m low now short =
    elim (nat_le previous reached) as (λ b. nat_le previous reached ≡ b → cond b (previous + step) previous < m + m) [
      | true ↦ λ e. grind (arith, nat_tests)
      | false ↦ λ _. low
    ] refl

moved_on-number : (step previous reached : ℕ) → previous ≤ reached + step → moved_on step previous reached ≤ suc reached + step
moved_on-number step previous reached low =
    elim (nat_le previous reached) as (λ b. nat_le previous reached ≡ b → cond b (previous + step) previous ≤ suc reached + step) [
      | true ↦ λ e. grind (arith, nat_tests)
      | false ↦ λ _. omega arith
    ] refl

one_of : {A : Type 0} (P : A → Type 0) (b : Bool) (x y : A) → P x → P y → P (cond b x y)
one_of P true x y p q = p
one_of P false x y p q = q

least_var : (var next : ℤ) (before after n : ℕ) → pos (5 * before) ≤ℤ (var +ℤ pos n) → (var +ℤ (pos 5 *ℤ (pos after -ℤ pos before))) ≤ℤ (next +ℤ pos 1) → pos (5 * after) ≤ℤ (next +ℤ pos (suc n))
least_var var next before after n low step = omega (arith, ints)

greatest_var : (var next : ℤ) (before after n : ℕ) → var ≤ℤ pos (5 * before + n) → next ≤ℤ ((var +ℤ (pos 5 *ℤ (pos after -ℤ pos before))) +ℤ pos 1) → next ≤ℤ pos (5 * after + suc n)
greatest_var var next before after n high step = omega (arith, ints)

pub next_issuers-le : (h : Head) (hs : List Head) → next_issuers h hs ≤ length hs
next_issuers-le h hs =
    omega (arith, distinct_count-le same_text (map (λ g. g.issuer) (take h.frame hs)), length-map (take h.frame hs) (λ g. g.issuer), length-take h.frame hs)

-- All heads.

abbrev pub AllInBounds : Params → List Head → Type 0
AllInBounds p [] = ⊤
AllInBounds p (h ∷ hs) = InBounds p (suc (length hs)) h × AllInBounds p hs

pub all_small : (p : Params) (hs : List Head) → AllInBounds p hs → AllByRecursion IsSmall hs
all_small p [] all = tt
all_small p (h ∷ hs) all =
    let b = all.0 in
    (record { number = omega (arith, b.number, b.short); time = b.time; issuers = omega (arith, b.issuers, b.short); size = b.size }, all_small p hs all.1)

small_times : (hs : List Head) → AllByRecursion IsSmall hs → AllByRecursion (λ h. h.time < 2 ^ 40) hs
small_times [] all = tt
small_times (h ∷ hs) all = (all.0.time, small_times hs all.1)

next_median_time-below : (p : Params) (h : Head) (hs : List Head) → h.median_time < 2 ^ 40 → AllByRecursion IsSmall hs → next_median_time p h hs < 2 ^ 40
next_median_time-below p h hs low all =
    let times = take_all (λ g. g.time < 2 ^ 40) p.median_time_blocks hs (small_times hs all) in
    omega (arith, low, median_below (2 ^ 40) (map (λ g. g.time) (take p.median_time_blocks hs)) (omega arith) (times_below _ (2 ^ 40) times))

first_bounds : (p : Params) (count : ℕ) (b : Block) → IsInRange p → MayFollow count [] b → InBounds p 1 (next_head p count [] b)
first_bounds p count b valid may = record {
  number = omega (arith, may.number);
  short = omega arith;
  time = may.small.time;
  median_time = may.small.time;
  some_frame = omega arith;
  frame = omega arith;
  issuers = omega arith;
  least_var = omega (arith, ints);
  greatest_var = omega (arith, ints);
  pow_min = omega (arith, may.low);
  diff_number = omega arith;
  money = record { dividend = omega (arith, valid.ud0); unit_base = omega arith; mass = omega arith; mass_reeval = omega arith };
  ud_time = omega (arith, valid.ud_time0);
  ud_reeval_time = omega (arith, valid.ud_reeval_time0);
  size = may.size;
}

later_bounds : (p : Params) (count : ℕ) (h : Head) (hs : List Head) (b : Block) → IsInRange p → AllInBounds p (h ∷ hs) → MayFollow count (h ∷ hs) b → KeepsLimits p count (h ∷ hs) b → InBounds p (suc (length (h ∷ hs))) (next_head p count (h ∷ hs) b)
later_bounds p count h hs b valid all may limits =
    let all_hs = h ∷ hs in
    let before = all.0 in
    let n = length all_hs in
    let issuers = next_issuers h all_hs in
    let time = next_median_time-below p h all_hs before.median_time (all_small p all_hs all) in
    record {
      number = omega (arith, may.number);
      short = omega (arith, may.number, may.small.number);
      time = may.small.time;
      median_time = time;
      some_frame = next_frame_of-least h.frame h.frame_var before.some_frame;
      frame = omega (arith, next_frame_of-most h.frame h.frame_var before.some_frame, before.frame);
      issuers = omega (arith, next_issuers-le h all_hs);
      least_var = least_var h.frame_var (next_var_of h.frame_var h.issuers issuers) h.issuers issuers n before.least_var (next_var_of-least h.frame_var h.issuers issuers);
      greatest_var = greatest_var h.frame_var (next_var_of h.frame_var h.issuers issuers) h.issuers issuers n before.greatest_var (next_var_of-most h.frame_var h.issuers issuers);
      pow_min = omega (arith, before.pow_min, next_pow_min-le h.pow_min (nat_le h.diff_number n) (min p.dt_diff_eval n) (elapsed_over (min p.dt_diff_eval n) (next_median_time p h all_hs) h all_hs) p);
      diff_number = moved_on-number p.dt_diff_eval h.diff_number n before.diff_number;
      money = record {
        dividend = limits.x08.0;
        unit_base = limits.x04;
        mass = limits.x08.1;
        mass_reeval = one_of (λ m. m < 2 ^ 100) (is_reevaluated p h all_hs) h.mass h.mass_reeval before.money.mass before.money.mass_reeval;
      };
      ud_time = moved_on-time p.dt h.ud_time (next_median_time p h all_hs) (2 ^ 40) before.ud_time time valid.dt.1;
      ud_reeval_time = moved_on-time p.dt_reeval h.ud_reeval_time (next_median_time p h all_hs) (2 ^ 40) before.ud_reeval_time time valid.dt_reeval.1;
      size = may.size;
    }

pub next_bounds : (p : Params) (count : ℕ) (hs : List Head) (b : Block) → IsInRange p → AllInBounds p hs → MayFollow count hs b → KeepsLimits p count hs b → InBounds p (suc (length hs)) (next_head p count hs b)
next_bounds p count [] b valid all may limits = first_bounds p count b valid may
next_bounds p count (h ∷ hs) b valid all may limits = later_bounds p count h hs b valid all may limits

-- heads that follow one another within the limits are in bounds
pub all_in_bounds : (p : Params) (hs : List Head) → IsInRange p → AreHeads p hs → AllInBounds p hs
all_in_bounds p [] valid heads = tt
all_in_bounds p (h ∷ hs) valid heads =
    let before = all_in_bounds p hs valid heads.1 in
    let f = heads.0 in
    (subst (InBounds p (suc (length hs))) (sym f.is) (next_bounds p f.count hs f.block valid before f.may f.limits), before)

pub are_small : (p : Params) (hs : List Head) → IsInRange p → AreHeads p hs → AllByRecursion IsSmall hs
are_small p hs valid heads = all_small p hs (all_in_bounds p hs valid heads)

pub newest_bounds : (p : Params) (hs : List Head) (h : Head) → IsInRange p → AreHeads p hs → newest hs ≡ Some h → InBounds p (length hs) h
newest_bounds p [] h valid heads e = cc
newest_bounds p (g ∷ hs) h valid heads e =
    let same : g ≡ h = cc in
    subst (InBounds p (suc (length hs))) same (all_in_bounds p (g ∷ hs) valid heads).0
