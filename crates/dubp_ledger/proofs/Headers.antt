-- What the header of the next block states is in range, also where the block passes a limit.
use Rattle.std.proofs.Common.{◌≡◌, ℕ, ◌+◌, ◌-◌, ◌*◌, ◌/◌, ◌^◌, ◌<◌, ◌≤◌, Bool, true, false, List, [], ◌∷◌, length, map, take, min, unwrap_or, Some, None, sym, subst, cond, nat_le, arith, ℤ, pos, negsuc, ◌+ℤ◌, ◌-ℤ◌, ◌*ℤ◌, ◌≤ℤ◌, unsigned_abs}
use Rattle.std.specs.List.{AllByRecursion}
use Rattle.std.proofs.lemmas.Int.{ints}
use Rattle.dubp_params.specs.declared.params.Params.{Params}
use Rattle.dubp_params.specs.Ranges.{IsInRange}
use Rattle.dubp_time.specs.Median.{median_of}
use Rattle.dubp_pow.specs.LeastDifficulty.{next_pow_min_of}
use Rattle.dubp_pow.specs.Frames.{next_var_of}
use Rattle.dubp_pow.proofs.Moves.{next_frame_of-most, next_var_of-least, next_var_of-most}
use Rattle.dubp_block.specs.Text.{IsDividend}
use Rattle.dubp_block.specs.declared.block.Block.{Block}
use Rattle.dubp_chain.specs.declared.head.Head.{Head}
use Rattle.dubp_chain.specs.Heads.{next_head, later_head, next_issuers, next_median_time, next_paid, next_amount, elapsed_over}
use Rattle.dubp_head.specs.Bounds.{IsSmall}
use Rattle.dubp_head.specs.Following.{AreHeads, KeepsLimits}
use Rattle.dubp_head.specs.NextHead.{without_dividend}
use Rattle.dubp_head.proofs.Bounds.{AllInBounds, all_in_bounds, all_small, next_issuers-le, ranked_below, take_all}
use Rattle.dubp_ledger.specs.Filling.{CanBeStated}

times_small : (hs : List Head) → AllByRecursion IsSmall hs → AllByRecursion (λ h. h.time < 2 ^ 40) hs
times_small [] all = tt
times_small (h ∷ hs) all = (all.0.time, times_small hs all.1)

times_below : (hs : List Head) → AllByRecursion (λ h. h.time < 2 ^ 40) hs → AllByRecursion (λ n. n < 2 ^ 40) (map (λ h. h.time) hs)
times_below [] all = tt
times_below (h ∷ hs) all = (all.0, times_below hs all.1)

median_small : (ns : List ℕ) → AllByRecursion (λ n. n < 2 ^ 40) ns → unwrap_or (median_of ns) 0 < 2 ^ 40
median_small [] all = omega arith
median_small (n ∷ ns) all =
    let k = length (n ∷ ns) in
    omega (arith, ranked_below (2 ^ 40) (n ∷ ns) ((k - 1) / 2) (omega arith) all, ranked_below (2 ^ 40) (n ∷ ns) (k / 2) (omega arith) all)

time_small : (p : Params) (h : Head) (hs : List Head) → h.median_time < 2 ^ 40 → AllByRecursion IsSmall hs → next_median_time p h hs < 2 ^ 40
time_small p h hs low all =
    let times = take_all (λ g. g.time < 2 ^ 40) p.median_time_blocks hs (times_small hs all) in
    omega (arith, low, median_small (map (λ g. g.time) (take p.median_time_blocks hs)) (times_below _ times))

pow_min_small : (before : ℕ) (moved : Bool) (range elapsed : ℕ) (p : Params) → next_pow_min_of before moved range elapsed p ≤ before + 2
pow_min_small before false range elapsed p = omega arith
pow_min_small before true range elapsed p = grind arith

abs_small : (z : ℤ) (m : ℕ) → (pos 0 -ℤ pos m) ≤ℤ z → z ≤ℤ pos m → unsigned_abs z ≤ m
abs_small (pos n) m least most = omega (arith, ints)
abs_small (negsuc n) m least most = omega (arith, ints)

var_small : (var next : ℤ) (before after n : ℕ) → before ≤ n → after ≤ n → n ≤ 2 ^ 40
    → pos (5 * before) ≤ℤ (var +ℤ pos n) → var ≤ℤ pos (5 * before + n)
    → (var +ℤ (pos 5 *ℤ (pos after -ℤ pos before))) ≤ℤ (next +ℤ pos 1) → next ≤ℤ ((var +ℤ (pos 5 *ℤ (pos after -ℤ pos before))) +ℤ pos 1)
    → unsigned_abs next < 2 ^ 53
var_small var next before after n few some short low high least most =
    omega (arith, abs_small next (2 ^ 44) (omega (arith, ints)) (omega (arith, ints)))

paid_small : (p : Params) (count : ℕ) (h : Head) (hs : List Head) → (next_amount p count h hs).amount < 2 ^ 53 → IsDividend (next_paid p count h hs)
paid_small p count h hs low = by (nat_le h.ud_time (next_median_time p h hs))
  where
    by : (b : Bool) → IsDividend (cond b (Some (next_amount p count h hs).amount) None)
    by true = low
    by false = tt

module _ (p : Params) (count : ℕ) (h : Head) (hs : List Head) (b : Block) (all : AllInBounds p (h ∷ hs)) (few : count < 2 ^ 21) where
  -- where no limit is passed
  head_can : KeepsLimits p count (h ∷ hs) b → CanBeStated (later_head p count h (h ∷ hs) b)
  head_can limits = record {
    pow_min = omega (arith, all.0.pow_min, all.0.short, pow_min_small h.pow_min (nat_le h.diff_number (length (h ∷ hs))) (min p.dt_diff_eval (length (h ∷ hs))) (elapsed_over (min p.dt_diff_eval (length (h ∷ hs))) (next_median_time p h (h ∷ hs)) h (h ∷ hs)) p);
    median_time = omega (arith, time_small p h (h ∷ hs) all.0.median_time (all_small p (h ∷ hs) all));
    dividend = paid_small p count h (h ∷ hs) limits.x08.0;
    unit_base = limits.x04;
    frame = omega (arith, next_frame_of-most h.frame h.frame_var all.0.some_frame, all.0.frame, all.0.short);
    frame_var = var_small h.frame_var (next_var_of h.frame_var h.issuers (next_issuers h (h ∷ hs))) h.issuers (next_issuers h (h ∷ hs)) (length (h ∷ hs)) all.0.issuers (next_issuers-le h (h ∷ hs)) all.0.short all.0.least_var all.0.greatest_var (next_var_of-least h.frame_var h.issuers (next_issuers h (h ∷ hs))) (next_var_of-most h.frame_var h.issuers (next_issuers h (h ∷ hs)));
    issuers = omega (arith, next_issuers-le h (h ∷ hs), all.0.short);
    members = omega (arith, few);
  }

  -- without a dividend, and with the money of the head before
  without_can : CanBeStated (without_dividend p count (h ∷ hs) b)
  without_can = record {
    pow_min = omega (arith, all.0.pow_min, all.0.short, pow_min_small h.pow_min (nat_le h.diff_number (length (h ∷ hs))) (min p.dt_diff_eval (length (h ∷ hs))) (elapsed_over (min p.dt_diff_eval (length (h ∷ hs))) (next_median_time p h (h ∷ hs)) h (h ∷ hs)) p);
    median_time = omega (arith, time_small p h (h ∷ hs) all.0.median_time (all_small p (h ∷ hs) all));
    dividend = tt;
    unit_base = all.0.money.unit_base;
    frame = omega (arith, next_frame_of-most h.frame h.frame_var all.0.some_frame, all.0.frame, all.0.short);
    frame_var = var_small h.frame_var (next_var_of h.frame_var h.issuers (next_issuers h (h ∷ hs))) h.issuers (next_issuers h (h ∷ hs)) (length (h ∷ hs)) all.0.issuers (next_issuers-le h (h ∷ hs)) all.0.short all.0.least_var all.0.greatest_var (next_var_of-least h.frame_var h.issuers (next_issuers h (h ∷ hs))) (next_var_of-most h.frame_var h.issuers (next_issuers h (h ∷ hs)));
    issuers = omega (arith, next_issuers-le h (h ∷ hs), all.0.short);
    members = omega (arith, few);
  }

-- for heads of which there are some
pub head_in_range : (p : Params) (count : ℕ) (hs : List Head) (b : Block) (h : Head) → 1 ≤ length hs → IsInRange p → AreHeads p hs → count < 2 ^ 21 → KeepsLimits p count hs b → h ≡ next_head p count hs b → CanBeStated h
head_in_range p count [] b h some valid are few limits is = absurd (omega (arith, some))
head_in_range p count (g ∷ hs) b h some valid are few limits is = subst CanBeStated (sym is) (head_can p count g hs b (all_in_bounds p (g ∷ hs) valid are) few limits)

pub without_in_range : (p : Params) (count : ℕ) (hs : List Head) (b : Block) (h : Head) → 1 ≤ length hs → IsInRange p → AreHeads p hs → count < 2 ^ 21 → h ≡ without_dividend p count hs b → CanBeStated h
without_in_range p count [] b h some valid are few is = absurd (omega (arith, some))
without_in_range p count (g ∷ hs) b h some valid are few is = subst CanBeStated (sym is) (without_can p count g hs b (all_in_bounds p (g ∷ hs) valid are) few)
