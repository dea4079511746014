-- What the definitions of heads give where a dividend is re-evaluated, where the least difficulty moves, over the first blocks of
-- a frame, and for medians.
use Rattle.std.specs.Prelude.{◌≡◌, ℕ, ℤ, pos, negsuc, List, [], ◌∷◌, Option, Some, None, option_map, map}
use Rattle.std.proofs.Common.{refl}
use Rattle.dubp_atoms.specs.Same.{Text}
use Rattle.dubp_params.specs.declared.params.Params.{Params}
use Rattle.dubp_time.specs.Median.{median_of}
use Rattle.dubp_pow.specs.Frames.{next_frame_of, next_var_of}
use Rattle.dubp_block.specs.declared.block.Block.{Block}
use Rattle.dubp_chain.specs.declared.head.Head.{Head}
use Rattle.dubp_chain.specs.Chains.{Chain}
use Rattle.dubp_chain.specs.Heads.{head_of, heads_of, doubled_median}
use Rattle.dubp_trials.specs.Samples.{key0, key1, key2, empty_block, paying_params, first_of_members}

-- ---- chains on which the median time of a block is the Time of the one before

abbrev following : Params → Params
following params = record params { median_time_blocks = 1 }

-- the block of this number and Time
abbrev at_time : ℕ → ℕ → Block
at_time number time = empty_block number key0 time time

-- ---- dividends: due at 1100, 1200, .., and re-evaluated at the same times

-- c² × dt / dtReeval is 0.0049, and three members have the mass
abbrev rising_params : ℕ → Params
rising_params dividend =
    record (following paying_params) {
      c = record { mantissa = 7; places = 2 };
      ud0 = dividend;
      dt = 100;
      dt_reeval = 100;
      ud_time0 = 1100;
      ud_reeval_time0 = 1100;
    }

abbrev rising : ℕ → Chain
rising dividend =
    at_time 4 1400 ∷ at_time 3 1300 ∷ at_time 2 1200 ∷ at_time 1 1100 ∷ first_of_members (rising_params dividend) ∷ []

-- what the head says of money: the new dividend, the dividend and its base, the mass, and the mass at the last re-evaluation
abbrev Money : Type 0
Money = Option ℕ × ℕ × ℕ × ℕ × ℕ

abbrev money_of : Head → Money
money_of h = (h.ud, h.dividend, h.unit_base, h.mass, h.mass_reeval)

-- from the first block on the mass is 0, 0, 3000, 6000 and 9015; the fifth block adds 0.0049 × 3000 / 3 = 4.9, rounded up
dividends_rise : map money_of (heads_of (rising 1000)) ≡ (
    (Some 1005, 1005, 0, 9015, 6000)
    ∷ (Some 1000, 1000, 0, 6000, 3000)
    ∷ (Some 1000, 1000, 0, 3000, 0)
    ∷ (None, 1000, 0, 0, 0)
    ∷ (None, 1000, 0, 0, 0)
    ∷ []
    )
dividends_rise = refl

-- 9995 and 48.98, rounded up, are 10044: 1005 in base 1, where each unit counts ten
base_rises : map money_of (heads_of (rising 9995)) ≡ (
    (Some 1005, 1005, 1, 90120, 59970)
    ∷ (Some 9995, 9995, 0, 59970, 29985)
    ∷ (Some 9995, 9995, 0, 29985, 0)
    ∷ (None, 9995, 0, 0, 0)
    ∷ (None, 9995, 0, 0, 0)
    ∷ []
    )
base_rises = refl

abbrev first_paid : ℕ → Chain
first_paid dividend = at_time 2 1200 ∷ at_time 1 1100 ∷ first_of_members (rising_params dividend) ∷ []

-- 9999 units stay, 10000 become a tenth
base_stays_below_ten_thousand : option_map money_of (head_of (first_paid 9999)) ≡ Some (Some 9999, 9999, 0, 29997, 0)
base_stays_below_ten_thousand = refl

base_rises_at_ten_thousand : option_map money_of (head_of (first_paid 10000)) ≡ Some (Some 1000, 1000, 1, 30000, 0)
base_rises_at_ten_thousand = refl

-- a dividend is due at its second, and not a second earlier
abbrev due_at : ℕ → Chain
due_at time = at_time 2 1300 ∷ at_time 1 time ∷ first_of_members (rising_params 1000) ∷ []

abbrev times_of : Head → Option ℕ × ℕ × ℕ × ℕ
times_of h = (h.ud, h.median_time, h.ud_time, h.ud_reeval_time)

not_due_yet : option_map times_of (head_of (due_at 1099)) ≡ Some (None, 1099, 1100, 1100)
not_due_yet = refl

due_now : option_map times_of (head_of (due_at 1100)) ≡ Some (Some 1000, 1100, 1200, 1200)
due_now = refl

-- one block moves each time by one step only
one_step_late : option_map times_of (head_of (due_at 1350)) ≡ Some (Some 1000, 1350, 1200, 1200)
one_step_late = refl

-- a re-evaluation without a dividend
abbrev evaluated_only : Chain
evaluated_only = at_time 2 1300 ∷ at_time 1 1100 ∷ first_of_members (record (rising_params 10000) { ud_time0 = 5000 }) ∷ []

evaluated_without_paying : option_map money_of (head_of evaluated_only) ≡ Some (None, 1000, 1, 0, 0)
evaluated_without_paying = refl

-- ---- least difficulty: a block takes 60 seconds, at least 50 and at most 72

-- evaluated at block 2, and then at block 4
abbrev difficult_params : Params
difficult_params = record (following paying_params) { dt_diff_eval = 2 }

-- the second block comes at this time, so that two blocks took as long since 1000
abbrev difficult : ℕ → ℕ → Chain
difficult pow_min time =
    at_time 2 2000 ∷ at_time 1 time ∷ record (first_of_members difficult_params) { pow_min = pow_min } ∷ []

-- the least difficulty at a block, and the number of the block of the next evaluation
abbrev evaluation_of : Head → ℕ × ℕ
evaluation_of h = (h.pow_min, h.diff_number)

abbrev evaluations : ℕ → ℕ → List (ℕ × ℕ)
evaluations pow_min time = map evaluation_of (heads_of (difficult pow_min time))

-- evaluated at the number that was stated, 2, and not at 1
fast_blocks_raise : evaluations 70 1100 ≡ (71, 4) ∷ (70, 2) ∷ (70, 2) ∷ []
fast_blocks_raise = refl

blocks_in_time_keep : evaluations 70 1101 ≡ (70, 4) ∷ (70, 2) ∷ (70, 2) ∷ []
blocks_in_time_keep = refl

blocks_still_in_time_keep : evaluations 70 1143 ≡ (70, 4) ∷ (70, 2) ∷ (70, 2) ∷ []
blocks_still_in_time_keep = refl

slow_blocks_lower : evaluations 70 1144 ≡ (69, 4) ∷ (70, 2) ∷ (70, 2) ∷ []
slow_blocks_lower = refl

-- stated for 3, it is not evaluated at 2
evaluated_later : map evaluation_of (heads_of (at_time 2 2000 ∷ at_time 1 1100 ∷ first_of_members (record difficult_params { dt_diff_eval = 3 }) ∷ [])) ≡ (0, 3) ∷ (0, 3) ∷ (0, 3) ∷ []
evaluated_later = refl

-- where each block evaluates, it looks back at one
evaluated_at_once : map evaluation_of (heads_of (at_time 1 1100 ∷ first_of_members (record difficult_params { dt_diff_eval = 1 }) ∷ [])) ≡ (1, 2) ∷ (0, 1) ∷ []
evaluated_at_once = refl

-- 15 past a multiple of 16 is passed over, up and down
up_to_sixteen : evaluations 14 1100 ≡ (16, 4) ∷ (14, 2) ∷ (14, 2) ∷ []
up_to_sixteen = refl

up_one : (evaluations 13 1100 ≡ (14, 4) ∷ (13, 2) ∷ (13, 2) ∷ []) × (evaluations 16 1100 ≡ (17, 4) ∷ (16, 2) ∷ (16, 2) ∷ [])
up_one = (refl, refl)

down_from_sixteen : evaluations 16 1144 ≡ (14, 4) ∷ (16, 2) ∷ (16, 2) ∷ []
down_from_sixteen = refl

down_one : (evaluations 17 1144 ≡ (16, 4) ∷ (17, 2) ∷ (17, 2) ∷ []) × (evaluations 14 1144 ≡ (13, 4) ∷ (14, 2) ∷ (14, 2) ∷ [])
down_one = (refl, refl)

never_below_zero : evaluations 0 1144 ≡ (0, 4) ∷ (0, 2) ∷ (0, 2) ∷ []
never_below_zero = refl

-- ---- the frame: wider by one where the variation is positive, which five issuers more raise by 25 and each block brings nearer to 0

abbrev frame_values : Head → ℕ × ℤ × ℕ
frame_values h = (h.frame, h.frame_var, h.issuers)

abbrev issued_by : ℕ → Text → Block
issued_by number issuer = empty_block number issuer 1000 1000

abbrev six_blocks : Chain
six_blocks =
    issued_by 5 key0 ∷ issued_by 4 key0 ∷ issued_by 3 key0 ∷ issued_by 2 key2 ∷ issued_by 1 key1 ∷ first_of_members paying_params ∷ []

-- the issuers that count are key0 at block 1, key1 at block 2, key2 and key1 at block 3, and all three from then on
frame_of_six : map frame_values (heads_of six_blocks) ≡ (
    (5, pos 11, 3)
    ∷ (4, pos 12, 3)
    ∷ (3, pos 8, 2)
    ∷ (2, pos 4, 1)
    ∷ (1, pos 5, 1)
    ∷ (1, pos 0, 0)
    ∷ []
    )
frame_of_six = refl

-- narrower where it is negative, and never below 1
frame_narrows : (next_frame_of 5 (negsuc 3) ≡ 4) × (next_frame_of 1 (negsuc 3) ≡ 1) × (next_frame_of 5 (pos 0) ≡ 5) × (next_frame_of 5 (pos 1) ≡ 6)
frame_narrows = (refl, refl, refl, refl)

-- -4 and five for each of two issuers fewer, and one nearer to 0; 0 stays
variation_returns : (next_var_of (negsuc 3) 3 1 ≡ negsuc 12) × (next_var_of (negsuc 3) 1 1 ≡ negsuc 2) × (next_var_of (pos 4) 1 1 ≡ pos 3) × (next_var_of (pos 0) 1 1 ≡ pos 0)
variation_returns = (refl, refl, refl, refl)

-- ---- medians

median_of_odd : median_of (30 ∷ 10 ∷ 20 ∷ []) ≡ Some 20
median_of_odd = refl

-- the mean of the middle two, rounded down
median_of_even : (median_of (40 ∷ 10 ∷ 31 ∷ 20 ∷ []) ≡ Some 25) × (median_of (10 ∷ 13 ∷ []) ≡ Some 11)
median_of_even = (refl, refl)

median_of_equal : median_of (10 ∷ 7 ∷ 10 ∷ 10 ∷ []) ≡ Some 10
median_of_equal = refl

median_of_none : median_of [] ≡ None
median_of_none = refl

-- of issuers it is taken twice, without rounding
twice_the_median : (doubled_median (1 ∷ 4 ∷ []) ≡ 5) × (doubled_median (3 ∷ 1 ∷ 2 ∷ []) ≡ 4)
twice_the_median = (refl, refl)

-- the median of the last five Times, never below the median time before: of four it is the mean of the middle two
abbrev four_times : Chain
four_times = at_time 4 1000 ∷ at_time 3 1060 ∷ at_time 2 1020 ∷ at_time 1 1045 ∷ first_of_members paying_params ∷ []

median_times : map (λ (h : Head). h.median_time) (heads_of four_times) ≡ 1032 ∷ 1022 ∷ 1022 ∷ 1000 ∷ 1000 ∷ []
median_times = refl
