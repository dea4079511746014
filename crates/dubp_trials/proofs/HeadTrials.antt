-- Each rule on a block's place in the chain and on its header, at its bound: a block that keeps it, and one that breaks it. The
-- values of heads that they rest on are worked out by hand; `Checks` and `RisingChecks` have more of them.
--
-- Rule, kept by, broken by:
--   G51   next_number                 number_too_great, number_too_small
--   G52   after_the_block_before, first_follows_none     after_another, after_none
--   G53   issued_behind_key0          issued_behind_another, issued_behind_none
--   G49   same_version, newer_version     lower_version, other_currency
--   G101  issued_by_member, first_issuer_is_free     issued_by_stranger, issued_by_excluded
--   X03   numerator_below, not_reevaluated     numerator_too_great
--   X04   greatest_base               base_too_great
--   X08   greatest_money, greatest_first_dividend     mass_too_great, dividend_too_great, first_dividend_too_great
--   G50   size_below_limit, first_size_is_free     size_at_limit
--   G54   right_issuers               issuers_too_many, issuers_too_few
--   G55   right_frame                 frame_too_great, frame_too_small
--   G56   right_variation             variation_too_great, variation_too_small
--   G57   right_median_time           median_time_too_great, median_time_too_small
--   G58   right_dividend, none_is_due     dividend_too_great_by_one, dividend_too_small, lacks_dividend, none_was_due
--   G59   right_base                  base_too_great_by_one, base_too_small
--   G60   right_members, counts_the_joiner     members_too_many, members_too_few, forgets_the_joiner
--   G61   right_least_difficulty      least_difficulty_too_great, least_difficulty_too_small
--   G62   meets_own_difficulty, meets_stated_difficulty     first_past_1023; the bound is tried in `Meets` on a text: meets_at_bound,
--         fails_past_bound, fails_at_digit, meets_1023, fails_1024
use Rattle.std.specs.Prelude.{◌≡◌, ℕ, ℤ, pos, ◌<◌, ◌≤◌, List, [], ◌∷◌, codes, take, Some, None, Option}
use Rattle.std.specs.Option.{IsSomeAnd}
use Rattle.std.specs.List.{All, AllByRecursion}
use Rattle.std.proofs.Common.{refl, sym, subst, ap, zero, suc, arith}
use Rattle.std.proofs.lemmas.List.Elements.{All-from_recursion}
use Rattle.dubp_atoms.specs.Same.{Text}
use Rattle.dubp_params.specs.declared.params.Params.{Params}
use Rattle.dubp_pow.specs.Ladder.{table_row}
use Rattle.dubp_pow.specs.Difficulty.{greatest_reached}
use Rattle.dubp_pow.specs.Meeting.{Meets}
use Rattle.dubp_block.specs.Text.{block_hash_of}
use Rattle.dubp_block.specs.declared.block.Block.{Block}
use Rattle.dubp_rules.specs.declared.rule.Rule.TheVariants.{G51, G52, G53, G49, G101, X03, X04, X08, G50, G54, G55, G56, G57, G58, G59, G60, G61, G62}
use Rattle.dubp_chain.specs.declared.head.Head.{Head}
use Rattle.dubp_chain.specs.Chains.{Chain}
use Rattle.dubp_chain.specs.Heads.{head_of}
use Rattle.dubp_validity.specs.HeadRules.{NumeratorFits, greatest_size}
use Rattle.dubp_validity.specs.Rules.{Holds}
use Rattle.dubp_trials.specs.Samples.{key0, key1, key2, key3, unread, member_line, paying_params, first_of_members, block0, block1, block2, one_block, two_blocks}
use Rattle.dubp_trials.proofs.Apart.{fails, none_is_some, texts_differ, many}

-- ---- the place in the chain

next_number : Holds [] one_block block1 G51
next_number = refl

number_too_great : ¬ Holds [] one_block block2 G51
number_too_great h = omega (arith, h)

number_too_small : ¬ Holds [] one_block block0 G51
number_too_small h = omega (arith, h)

abbrev behind : Option (Text × Text) → Block
behind previous = record block1 { previous = previous }

after_the_block_before : Holds [] one_block (behind (Some (block_hash_of block0, key1))) G52
after_the_block_before = refl

after_another : (other : Text) → ¬ (other ≡ block_hash_of block0) → ¬ Holds [] one_block (behind (Some (other, key0))) G52
after_another other apart h = apart h

after_none : ¬ Holds [] one_block (behind None) G52
after_none h = h

first_follows_none : Holds [] [] block0 G52
first_follows_none = tt

issued_behind_key0 : Holds [] one_block (behind (Some (unread, key0))) G53
issued_behind_key0 = refl

issued_behind_another : ¬ Holds [] one_block (behind (Some (unread, key1))) G53
issued_behind_another h = texts_differ key1 key0 refl h

issued_behind_none : ¬ Holds [] one_block (behind None) G53
issued_behind_none h = h

same_version : Holds [] two_blocks block2 G49
same_version = (refl, omega arith)

newer_version : Holds [] two_blocks (record block2 { version = 11 }) G49
newer_version = (refl, omega arith)

lower_version : ¬ Holds [] (record block1 { version = 11 } ∷ one_block) block2 G49
lower_version h = omega (arith, h.1)

other_currency : ¬ Holds [] two_blocks (record block2 { currency = codes "best_currency" }) G49
other_currency h = texts_differ (codes "best_currency") (codes "test_currency") refl h.0

issued_by_member : Holds [] one_block (record block1 { issuer = key2 }) G101
issued_by_member = refl

issued_by_stranger : ¬ Holds [] one_block (record block1 { issuer = key3 }) G101
issued_by_stranger = fails

issued_by_excluded : ¬ Holds [] (record block1 { excluded = key2 ∷ [] } ∷ one_block) block2 G101
issued_by_excluded = fails

first_issuer_is_free : Holds [] [] (record block0 { issuer = key3 }) G101
first_issuer_is_free = tt

-- ---- limits on money

-- a head of mass, at which the dividend is re-evaluated next
abbrev heavy : ℕ → Head
heavy mass = record {
  version = 10;
  number = 0;
  hash = unread;
  issuer = key0;
  time = 1000;
  median_time = 1000;
  frame = 1;
  frame_var = pos 0;
  issuers = 0;
  pow_min = 0;
  diff_number = 10;
  members = 3;
  dividend = 1000;
  unit_base = 1;
  mass = 0;
  mass_reeval = mass;
  ud_time = 1000;
  ud_reeval_time = 1000;
  ud = None;
  size = 0;
}

-- c is 0.2 and a dividend is due each second: the numerator is 4 times the mass in units of ten
abbrev heavy_params : Params
heavy_params = record paying_params { c = record { mantissa = 2; places = 1 }; dt = 1 }

-- 2^127 = 4 × 42535295865117307932921825928971026432
numerator_below : NumeratorFits heavy_params 3 (heavy 425352958651173079329218259289710264310 ∷ [])
numerator_below = λ is. omega arith

numerator_too_great : ¬ NumeratorFits heavy_params 3 (heavy 425352958651173079329218259289710264311 ∷ [])
numerator_too_great h = omega (arith, h refl)

not_reevaluated : Holds [] two_blocks block2 X03
not_reevaluated = λ is. absurd (fails is)

-- whatever chain has such a head
abbrev IsHead : Chain → Block → Head → Type 0
IsHead c b h = head_of (b ∷ c) ≡ Some h

abbrev HasGreatestBase : Head → Type 0
HasGreatestBase h = h.unit_base ≤ 15

greatest_base : (c : Chain) (b : Block) (h : Head) → IsHead c b h → h.unit_base ≡ 15 → Holds [] c b X04
greatest_base c b h is base =
    let fits : HasGreatestBase h = omega (arith, base) in
    subst (λ o. IsSomeAnd o HasGreatestBase) (sym is) fits

base_too_great : (c : Chain) (b : Block) (h : Head) → IsHead c b h → h.unit_base ≡ 16 → ¬ Holds [] c b X04
base_too_great c b h is base holds =
    let fits : HasGreatestBase h = subst (λ o. IsSomeAnd o HasGreatestBase) is holds in
    omega (arith, base, fits)

-- 2^53 and 2^100
abbrev HasGreatestMoney : Head → Type 0
HasGreatestMoney h = (h.dividend < 9007199254740992) × (h.mass < 1267650600228229401496703205376)

greatest_money : (c : Chain) (b : Block) (h : Head) → IsHead c b h → h.dividend ≡ 9007199254740991 → h.mass ≡ 1267650600228229401496703205375 → Holds [] c b X08
greatest_money c b h is dividend mass =
    let fits : HasGreatestMoney h = (omega (arith, dividend), omega (arith, mass)) in
    subst (λ o. IsSomeAnd o HasGreatestMoney) (sym is) fits

dividend_too_great : (c : Chain) (b : Block) (h : Head) → IsHead c b h → h.dividend ≡ 9007199254740992 → ¬ Holds [] c b X08
dividend_too_great c b h is dividend holds =
    let fits : HasGreatestMoney h = subst (λ o. IsSomeAnd o HasGreatestMoney) is holds in
    omega (arith, dividend, fits.0)

mass_too_great : (c : Chain) (b : Block) (h : Head) → IsHead c b h → h.mass ≡ 1267650600228229401496703205376 → ¬ Holds [] c b X08
mass_too_great c b h is mass holds =
    let fits : HasGreatestMoney h = subst (λ o. IsSomeAnd o HasGreatestMoney) is holds in
    omega (arith, mass, fits.1)

abbrev beginning_with : ℕ → Block
beginning_with dividend = first_of_members (record paying_params { ud0 = dividend })

greatest_first_dividend : Holds [] [] (beginning_with 9007199254740991) X08
greatest_first_dividend = (omega arith, omega arith)

first_dividend_too_great : ¬ Holds [] [] (beginning_with 9007199254740992) X08
first_dividend_too_great h = omega (arith, h.0)

-- ---- size

-- a block of so many lines
abbrev sized : ℕ → Block
sized lines = record block1 { revoked = many lines (record { key = key2; sig = unread }) }

size_below_limit : Holds [] one_block (sized 499) G50
size_below_limit = omega arith

size_at_limit : ¬ Holds [] one_block (sized 500) G50
size_at_limit h = omega (arith, h)

first_size_is_free : Holds [] [] (record (sized 500) { number = 0 }) G50
first_size_is_free = tt

-- the two issuers' last two blocks have 912 lines, of which eleven tenths of the mean are 501.6; the third block does not count
abbrev lines_of : ℕ → Head
lines_of size = record (heavy 0) { size = size }

mean_of_two : greatest_size 2 (lines_of 900 ∷ lines_of 12 ∷ lines_of 5000 ∷ []) ≡ 502
mean_of_two = refl

-- five issuers are counted, and there are two blocks
mean_of_all : greatest_size 5 (lines_of 900 ∷ lines_of 100 ∷ []) ≡ 550
mean_of_all = refl

-- at 454 lines a block eleven tenths are less than 500
never_below_500 : greatest_size 2 (lines_of 454 ∷ lines_of 454 ∷ []) ≡ 500
never_below_500 = refl

-- ---- the values of the new head: at the third block time 1150, a dividend of 1000, frame 2, its variation 4, and one issuer

right_issuers : Holds [] two_blocks (record block2 { issuers = 1 }) G54
right_issuers = refl

issuers_too_many : ¬ Holds [] two_blocks (record block2 { issuers = 2 }) G54
issuers_too_many h = omega (arith, h)

issuers_too_few : ¬ Holds [] two_blocks (record block2 { issuers = 0 }) G54
issuers_too_few h = omega (arith, h)

right_frame : Holds [] two_blocks (record block2 { frame = 2 }) G55
right_frame = refl

frame_too_great : ¬ Holds [] two_blocks (record block2 { frame = 3 }) G55
frame_too_great h = omega (arith, h)

frame_too_small : ¬ Holds [] two_blocks (record block2 { frame = 1 }) G55
frame_too_small h = omega (arith, h)

-- a variation that is not negative
abbrev amount : ℤ → ℕ
amount (pos n) = n
amount other = 0

right_variation : Holds [] two_blocks (record block2 { frame_var = pos 4 }) G56
right_variation = refl

variation_too_great : ¬ Holds [] two_blocks (record block2 { frame_var = pos 5 }) G56
variation_too_great h = let five : 5 ≡ 4 = ap amount h in omega (arith, five)

variation_too_small : ¬ Holds [] two_blocks (record block2 { frame_var = pos 3 }) G56
variation_too_small h = let three : 3 ≡ 4 = ap amount h in omega (arith, three)

right_median_time : Holds [] two_blocks block2 G57
right_median_time = refl

median_time_too_great : ¬ Holds [] two_blocks (record block2 { median_time = 1151 }) G57
median_time_too_great h = omega (arith, h)

median_time_too_small : ¬ Holds [] two_blocks (record block2 { median_time = 1149 }) G57
median_time_too_small h = omega (arith, h)

right_dividend : Holds [] two_blocks block2 G58
right_dividend = refl

-- the amount of a dividend, and of none 0
abbrev paid : Option ℕ → ℕ
paid None = 0
paid (Some n) = n

dividend_too_great_by_one : ¬ Holds [] two_blocks (record block2 { dividend = Some 1001 }) G58
dividend_too_great_by_one h = let more : 1001 ≡ 1000 = ap paid h in omega (arith, more)

dividend_too_small : ¬ Holds [] two_blocks (record block2 { dividend = Some 999 }) G58
dividend_too_small h = let less : 999 ≡ 1000 = ap paid h in omega (arith, less)

lacks_dividend : ¬ Holds [] two_blocks (record block2 { dividend = None }) G58
lacks_dividend = none_is_some 1000

none_is_due : Holds [] one_block block1 G58
none_is_due = refl

none_was_due : ¬ Holds [] one_block (record block1 { dividend = Some 1000 }) G58
none_was_due h = none_is_some 1000 (sym h)

-- the first dividend, of 10000 units, is 1000 in base 1
abbrev ten_thousand : Chain
ten_thousand = block1 ∷ first_of_members (record paying_params { ud0 = 10000; ud_reeval_time0 = 1100 }) ∷ []

right_base : Holds [] ten_thousand (record block2 { unit_base = 1 }) G59
right_base = refl

base_too_great_by_one : ¬ Holds [] two_blocks (record block2 { unit_base = 1 }) G59
base_too_great_by_one h = omega (arith, h)

base_too_small : ¬ Holds [] ten_thousand block2 G59
base_too_small h = omega (arith, h)

right_members : Holds [] two_blocks block2 G60
right_members = refl

members_too_many : ¬ Holds [] two_blocks (record block2 { members = 4 }) G60
members_too_many h = omega (arith, h)

members_too_few : ¬ Holds [] two_blocks (record block2 { members = 2 }) G60
members_too_few h = omega (arith, h)

abbrev joining : Block
joining = record block2 { joiners = member_line key3 (codes "user3") ∷ [] }

counts_the_joiner : Holds [] two_blocks (record joining { members = 4 }) G60
counts_the_joiner = refl

forgets_the_joiner : ¬ Holds [] two_blocks joining G60
forgets_the_joiner h = omega (arith, h)

-- the least difficulty stays 70, since none is evaluated
abbrev at_seventy : Chain
at_seventy = block1 ∷ record block0 { pow_min = 70 } ∷ []

right_least_difficulty : Holds [] at_seventy (record block2 { pow_min = 70 }) G61
right_least_difficulty = refl

least_difficulty_too_great : ¬ Holds [] at_seventy (record block2 { pow_min = 71 }) G61
least_difficulty_too_great h = omega (arith, h)

least_difficulty_too_small : ¬ Holds [] at_seventy (record block2 { pow_min = 69 }) G61
least_difficulty_too_small h = omega (arith, h)

-- ---- difficulty

-- the issuer of the only block has a handicap of 4 for the next, so its hash has to meet 4
abbrev issued_again : Block
issued_again = record block1 { issuer = key0 }

meets_own_difficulty : Holds [] one_block issued_again G62 ≡ Meets (block_hash_of issued_again) 4
unfolding greatest_reached table_row
meets_own_difficulty = refl

-- the first block has to meet the difficulty that it states
meets_stated_difficulty : Holds [] [] (record block0 { pow_min = 70 }) G62 ≡ Meets (block_hash_of block0) 70
meets_stated_difficulty = refl

first_past_1023 : ¬ Holds [] [] (record block0 { pow_min = 1024 }) G62
first_past_1023 h = omega (arith, h.limit)

-- three zeros and a 7: 3 × 16 and 8 more
abbrev digits_0007 : List ℕ
digits_0007 = codes "0007A3FF"

zeros_0007 : All (λ c. c ≡ 48) (take 3 digits_0007)
zeros_0007 = All-from_recursion (λ c. c ≡ 48) (take 3 digits_0007) (refl, (refl, (refl, tt)))

meets_at_bound : Meets digits_0007 56
meets_at_bound = record { limit = omega arith; zeros = zeros_0007; next = omega arith }

fails_past_bound : ¬ Meets digits_0007 57
fails_past_bound h = omega (arith, h.next)

-- an A counts 10
meets_to_letter : Meets (codes "A0") 5
meets_to_letter = record { limit = omega arith; zeros = All-from_recursion (λ c. c ≡ 48) [] tt; next = omega arith }

fails_at_letter : ¬ Meets (codes "A0") 6
fails_at_letter h = omega (arith, h.next)

-- the third digit is no zero
fails_at_digit : ¬ Meets (codes "001700") 48
fails_at_digit h = let one : 49 ≡ 48 = h.zeros 2 0 (omega arith) in omega (arith, one)

-- 63 zeros and a 0: the greatest difficulty is met, and one more by nothing
abbrev zeros : List ℕ
zeros = many 64 48

all_zeros : (n : ℕ) → AllByRecursion (λ (c : ℕ). c ≡ 48) (many n 48)
all_zeros zero = tt
all_zeros (suc n) = (refl, all_zeros n)

meets_1023 : Meets zeros 1023
meets_1023 = record { limit = omega arith; zeros = All-from_recursion (λ c. c ≡ 48) (take 63 zeros) (all_zeros 63); next = omega arith }

fails_1024 : (digits : List ℕ) → ¬ Meets digits 1024
fails_1024 digits h = omega (arith, h.limit)
