-- The sizes of blocks, summed up, and what a size must stay below.
use Rattle.std.proofs.Common.{◌≡◌, ℕ, zero, suc, ◌-◌, ◌*◌, ◌^◌, ◌<◌, ◌≤◌, max, List, [], ◌∷◌, ◌++◌, min, take, drop, reverse, length, get_or, refl, ap, ◌∙◌, arith}
use Rattle.std.specs.List.{AllByRecursion}
use Rattle.std.specs.Int.{div_ceil}
use Rattle.std.proofs.Math.Seq.{get_or-append_seam}
use Rattle.std.proofs.Math.ListN.{get_or-append}
use Rattle.std.proofs.lemmas.List.{length-reverse, length-take, take_min, reverse-append}
use Rattle.std.proofs.lemmas.List.Sums.{sum_by-cons, sum_by-take-drop}
use Rattle.dubp_chain.specs.declared.head.Head.{Head}
use Rattle.dubp_validity.specs.HeadRules.{greatest_size}
use Rattle.dubp_head.specs.Bounds.{IsSmall}
use Rattle.dubp_head.specs.Totals.{SizesState, AreTotals, total_of, totals_of}
use Rattle.dubp_head.proofs.Bounds.{take_all}

-- a total is below as many greatest sizes
total_below : (bound : ℕ) (hs : List Head) → AllByRecursion (λ h. h.size < bound) hs → total_of hs ≤ bound * length hs
total_below bound [] all = omega arith
total_below bound (h ∷ hs) all = omega (arith, all.0, sum_by-cons (λ g. g.size) h hs, total_below bound hs all.1)

sizes_small : (hs : List Head) → AllByRecursion IsSmall hs → AllByRecursion (λ h. h.size < 2 ^ 53) hs
sizes_small [] all = tt
sizes_small (h ∷ hs) all = (all.0.size, sizes_small hs all.1)

pub last_small : (hs : List Head) (k : ℕ) → AllByRecursion IsSmall hs → length hs ≤ 2 ^ 40 → total_of (take k hs) < 2 ^ 94
last_small hs k all short =
    omega (arith, short, length-take k hs, total_below (2 ^ 53) (take k hs) (sizes_small (take k hs) (take_all IsSmall k hs all)))

length_of : (hs : List Head) → length (totals_of hs) ≡ length hs
length_of [] = refl
length_of (h ∷ hs) = ap suc (length_of hs)

pub length-totals : (s : SizesState) (hs : List Head) → AreTotals s hs → length s.totals ≡ length hs
length-totals s hs are = ap length are.are ∙ length-reverse (totals_of hs) ∙ length_of hs

-- no total of a list that can be is cut off
pub total_fits : (s : SizesState) (hs : List Head) → AreTotals s hs → length s.totals < 2 ^ 63 → total_of hs ≤ 2 ^ 127
total_fits s hs are few = omega (arith, few, length-totals s hs are, total_below (2 ^ 64) hs are.each)

pub reverse-more : (hs : List Head) (h : Head) → reverse (totals_of (h ∷ hs)) ≡ reverse (totals_of hs) ++ total_of (h ∷ hs) ∷ []
reverse-more hs h = reverse-append (total_of (h ∷ hs) ∷ []) (totals_of hs)

-- the total so many places from the end is that of the blocks that are left without the last so many
total_behind : (hs : List Head) (j : ℕ) → j < length hs → get_or (reverse (totals_of hs)) (length hs - suc j) 0 ≡ total_of (drop j hs)
total_behind [] j few = absurd (omega (arith, few))
total_behind (h ∷ hs) zero few =
    let end : length (h ∷ hs) - 1 ≡ length (reverse (totals_of hs)) = omega (arith, length-reverse (totals_of hs), length_of hs) in
    rw (reverse-more hs h, end) (get_or-append_seam (reverse (totals_of hs)) (total_of (h ∷ hs)) [] 0)
total_behind (h ∷ hs) (suc j) few =
    let within : length hs - suc j < length (reverse (totals_of hs)) = omega (arith, few, length-reverse (totals_of hs), length_of hs) in
    let at : length (h ∷ hs) - suc (suc j) ≡ length hs - suc j = omega arith in
    rw (reverse-more hs h, at) (get_or-append (reverse (totals_of hs)) (total_of (h ∷ hs) ∷ []) 0 (length hs - suc j) within ∙ total_behind hs j (omega (arith, few)))

pub total_first : (s : SizesState) (hs : List Head) (count : ℕ) → AreTotals s hs → 0 < count → count ≤ length s.totals → get_or s.totals (count - 1) 0 ≡ total_of (drop (length hs - count) hs)
total_first s hs count are some few =
    let long = length-totals s hs are in
    let at : count - 1 ≡ length hs - suc (length hs - count) = omega (arith, some, few, long) in
    rw (are.are, at) (total_behind hs (length hs - count) (omega (arith, some, few, long)))

-- what is left of the total without that of the blocks before the last so many
pub total_last : (hs : List Head) (count len before : ℕ) → len ≡ length hs → before ≡ len - count → total_of (drop (length hs - len) hs) - total_of (drop (length hs - before) hs) ≡ total_of (take count hs)
total_last hs count len before is at =
    let all : length hs - len ≡ 0 = omega (arith, is) in
    let last : length hs - before ≡ min count (length hs) = omega (arith, is, at) in
    rw (all, last) (omega (arith, sum_by-take-drop (λ h. h.size) hs (min count (length hs)), ap total_of (take_min count hs)))

-- a count over all is that over as many as there are
pub greatest_size-fewer : (hs : List Head) (count : ℕ) → greatest_size (min count (length hs)) hs ≡ greatest_size count hs
greatest_size-fewer hs count =
    let all : min (min count (length hs)) (length hs) ≡ min count (length hs) = omega arith in
    ap (λ j. max 500 (div_ceil (11 * total_of (take j hs)) (10 * j))) all
