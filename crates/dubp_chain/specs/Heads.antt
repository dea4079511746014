-- The values of a chain at each of its blocks, from the values at the blocks before, and the difficulty of a key for the next
-- block. Protocol: head values.
use Rattle.std.specs.Prelude.{ℕ, ◌+◌, ◌-◌, ◌*◌, ◌^◌, ◌/◌, max, min, pos, Bool, List, [], ◌∷◌, Option, Some, None, unwrap_or, find, map, take, length, count_by, sum_by, slice_index_or, nat_le, if◌then◌else◌}
use Rattle.std.specs.Option.{option_map_or}
use Rattle.std.specs.Set.{distinct_count, unique_keys}
use Rattle.dubp_time.specs.OfAtoms.{Text, same_text}
use Rattle.dubp_block.specs.declared.block.Block.{Block}
use Rattle.dubp_block.specs.Text.{block_hash_of, size_of}
use Rattle.dubp_block.specs.OfParams.{Params}
use Rattle.dubp_time.specs.Median.{ranked, median_of}
use Rattle.dubp_pow.specs.Frames.{next_frame_of, next_var_of}
use Rattle.dubp_pow.specs.LeastDifficulty.{next_pow_min_of}
use Rattle.dubp_pow.specs.Difficulty.{handicap_of, issuer_diff_of}
use Rattle.dubp_dividend.specs.declared.dividends.Dividend.{Dividend}
use Rattle.dubp_dividend.specs.Reevaluation.{next_in_base}
use Rattle.dubp_chain.specs.declared.head.Head.{Head}
use Rattle.dubp_chain.specs.Chains.{Chain, params}
use Rattle.dubp_chain.specs.Members.{members}

-- The values at a block follow from the heads of the blocks before it, newest first, the parameters, the number of members that
-- the chain has with the block, and the block. `h` is the head before, which is the first of `hs`.

-- the greater of the median time before and the median of the times of the last blocks
abbrev pub next_median_time : Params → Head → List Head → ℕ
next_median_time p h hs = max h.median_time (unwrap_or (median_of (map (λ g. g.time) (take p.median_time_blocks hs))) 0)

-- how many keys issued the blocks of the last frame
abbrev pub next_issuers : Head → List Head → ℕ
next_issuers h hs = distinct_count same_text (map (λ g. g.issuer) (take h.frame hs))

-- a number or a time that has been reached moves on by one step
abbrev pub moved_on : ℕ → ℕ → ℕ → ℕ
moved_on step previous reached = if nat_le previous reached then previous + step else previous

-- since the block so many blocks back, the median time went on by so much
abbrev pub elapsed_over : ℕ → ℕ → Head → List Head → ℕ
elapsed_over range time h hs = time - (slice_index_or hs (range - 1) h).median_time

-- evaluated anew where the number of the next evaluation has been reached
abbrev pub next_least_difficulty : Params → Head → List Head → ℕ
next_least_difficulty p h hs =
    let n = length hs in
    let range = min p.dt_diff_eval n in
    next_pow_min_of h.pow_min (nat_le h.diff_number n) range (elapsed_over range (next_median_time p h hs) h hs) p

-- the time of the next re-evaluation has been reached
abbrev pub is_reevaluated : Params → Head → List Head → Bool
is_reevaluated p h hs = nat_le h.ud_reeval_time (next_median_time p h hs)

abbrev pub dividend_of : Head → Dividend
dividend_of h = record { amount = h.dividend; base = h.unit_base }

abbrev pub next_amount : Params → ℕ → Head → List Head → Dividend
next_amount p count h hs = if is_reevaluated p h hs then next_in_base (dividend_of h) h.mass_reeval count p else dividend_of h

-- a dividend is paid where its time has been reached
abbrev pub next_paid : Params → ℕ → Head → List Head → Option ℕ
next_paid p count h hs = if nat_le h.ud_time (next_median_time p h hs) then Some (next_amount p count h hs).amount else None

-- the units of an amount
abbrev pub units : ℕ → ℕ → ℕ
units amount base = amount * 10 ^ base

-- the units that a dividend gives to so many members; no dividend gives none
abbrev pub paid_units : Option ℕ → ℕ → ℕ → ℕ
paid_units paid base count = option_map_or (λ amount. units amount base * count) paid 0

-- the values at the first block
abbrev pub first_head : Params → ℕ → Block → Head
first_head p count b = record {
  version = b.version;
  number = b.number;
  hash = block_hash_of b;
  issuer = b.issuer;
  time = b.time;
  median_time = b.time;
  frame = 1;
  frame_var = pos 0;
  issuers = 0;
  pow_min = b.pow_min;
  diff_number = p.dt_diff_eval;
  members = count;
  dividend = p.ud0;
  unit_base = 0;
  mass = 0;
  mass_reeval = 0;
  ud_time = p.ud_time0;
  ud_reeval_time = p.ud_reeval_time0;
  ud = None;
  size = size_of b;
}

-- the values at a later block
abbrev pub later_head : Params → ℕ → Head → List Head → Block → Head
later_head p count h hs b =
    let time = next_median_time p h hs in
    let issuers = next_issuers h hs in
    let amount = next_amount p count h hs in
    let paid = next_paid p count h hs in
    record {
      version = b.version;
      number = b.number;
      hash = block_hash_of b;
      issuer = b.issuer;
      time = b.time;
      median_time = time;
      frame = next_frame_of h.frame h.frame_var;
      frame_var = next_var_of h.frame_var h.issuers issuers;
      issuers = issuers;
      pow_min = next_least_difficulty p h hs;
      diff_number = moved_on p.dt_diff_eval h.diff_number (length hs);
      members = count;
      dividend = amount.amount;
      unit_base = amount.base;
      mass = h.mass + paid_units paid amount.base count;
      mass_reeval = if is_reevaluated p h hs then h.mass else h.mass_reeval;
      ud_time = moved_on p.dt h.ud_time time;
      ud_reeval_time = moved_on p.dt_reeval h.ud_reeval_time time;
      ud = paid;
      size = size_of b;
    }

abbrev pub next_head : Params → ℕ → List Head → Block → Head
next_head p count [] b = first_head p count b
next_head p count (h ∷ hs) b = later_head p count h (h ∷ hs) b

-- the head at each block of a chain, newest first
abbrev pub heads_of : Chain → List Head
heads_of [] = []
heads_of (b ∷ c) = let hs = heads_of c in next_head (params (b ∷ c)) (length (members (b ∷ c))) hs b ∷ hs

abbrev pub newest : List Head → Option Head
newest [] = None
newest (h ∷ hs) = Some h

-- the head of a chain; the empty chain has none
abbrev pub head_of : Chain → Option Head
head_of c = newest (heads_of c)

-- the time of a chain is the median time of its head
abbrev pub time_of : Chain → ℕ
time_of c = option_map_or (λ h. h.median_time) (head_of c) 0

abbrev pub unit_base_of : Chain → ℕ
unit_base_of c = option_map_or (λ h. h.unit_base) (head_of c) 0

-- issued by the new dividends of all blocks
abbrev pub issued : Chain → ℕ
issued c = sum_by (λ h. paid_units h.ud h.unit_base h.members) (heads_of c)

-- ---- the difficulty of a key for the block behind these heads

-- the head at its last block
abbrev pub last_issued : List Head → Text → Option Head
last_issued hs k = find (λ h. same_text k h.issuer) hs

-- twice the median: twice the middle one, or the sum of the middle two
abbrev pub doubled_median : List ℕ → ℕ
doubled_median numbers = ranked numbers ((length numbers - 1) / 2) + ranked numbers (length numbers / 2)

abbrev pub blocks_of : List Text → Text → ℕ
blocks_of issuers k = count_by (same_text k) issuers

-- the handicap, from the issuers of the blocks of the frame
abbrev pub handicap_among : List Text → Text → ℕ
handicap_among issuers k =
    handicap_of (blocks_of issuers k) (doubled_median (map (blocks_of issuers) (unique_keys same_text issuers)))

-- from the least difficulty, the issuers counted at the last block of the key, how many blocks stand behind that, and its handicap
abbrev pub difficulty_behind : Params → Head → List Head → Text → ℕ
difficulty_behind p h hs k =
    let own = last_issued hs k in
    issuer_diff_of
    (next_least_difficulty p h hs)
    p.percent_rot
    (option_map_or (λ g. g.issuers) own 0)
    (option_map_or (λ g. length hs - 1 - g.number) own 0)
    (handicap_among (map (λ g. g.issuer) (take h.frame hs)) k)

-- the difficulty of a key for the next block of a chain that is not empty
abbrev pub difficulty_of : Chain → List Head → Text → Option ℕ
difficulty_of c [] k = None
difficulty_of c (h ∷ hs) k = Some (difficulty_behind (params c) h (h ∷ hs) k)

abbrev pub difficulty : Chain → Text → Option ℕ
difficulty c k = difficulty_of c (heads_of c) k
