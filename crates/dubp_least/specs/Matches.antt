-- The matches of a tournament between n places. Node 1 is the last match, the nodes 2 * k and 2 * k + 1 play for the node k, and the
-- node n + i is the place i itself. A list of the length n has the winners of the nodes below n. These words mirror the code.
use Rattle.std.specs.Prelude.{◌≡◌, ℕ, suc, zero, ◌+◌, ◌-◌, ◌*◌, ◌/◌, ◌<◌, ◌≤◌, List, length, get_or, Option, None, Some, min, cond, nat_lt}
use Rattle.std.specs.Option.{option_map}

-- the measure of what a place holds; a place behind the last slot holds nothing
abbrev pub measure_at : {V : Type 0} → (V → ℕ) → List (Option V) → ℕ → Option ℕ
measure_at measure values i = option_map measure (get_or values i None)

-- which of two places wins: the one with the lower measure, or the first of two with one measure
abbrev pub better : Option ℕ → Option ℕ → ℕ → ℕ → ℕ
better None w i j = j
better (Some v) None i j = i
better (Some v) (Some w) i j = cond (nat_lt v w) i (cond (nat_lt w v) j (min i j))

abbrev pub play : (ℕ → Option ℕ) → ℕ → ℕ → ℕ
play measures i j = better (measures i) (measures j) i j

-- the place that wins at a node
abbrev pub winner_at : List ℕ → ℕ → ℕ
winner_at winners k = cond (nat_lt k (length winners)) (get_or winners k 0) (k - length winners)

-- the node k has the winner of its match
abbrev pub IsPlayed : (ℕ → Option ℕ) → List ℕ → ℕ → Type 0
IsPlayed measures winners k = winner_at winners k ≡ play measures (winner_at winners (2 * k)) (winner_at winners (2 * k + 1))

-- the node t matches further up
abbrev pub up : ℕ → ℕ → ℕ
up zero k = k
up (suc t) k = up t (k / 2)

-- the node k is j, or is above it
pub record IsAbove (k j : ℕ) : Type 0 where
  pub matches : ℕ
  pub is : up matches j ≡ k

-- each winner comes from below
pub record AreBelow (winners : List ℕ) : Type 0 where
  pub place : (k : ℕ) → 1 ≤ k → k < 2 * length winners → winner_at winners k < length winners
  pub below : (k : ℕ) → 1 ≤ k → k < 2 * length winners → IsAbove k (length winners + winner_at winners k)

-- every match is played but those above a node
abbrev pub ArePlayedBut : (ℕ → Option ℕ) → List ℕ → ℕ → Type 0
ArePlayedBut measures winners node = (k : ℕ) → 1 ≤ k → k < length winners → (IsAbove k node → ⊥) → IsPlayed measures winners k

-- every match is played
pub record IsTournament (measures : ℕ → Option ℕ) (winners : List ℕ) : Type 0 where
  pub places : AreBelow winners
  pub played : (k : ℕ) → 1 ≤ k → k < length winners → IsPlayed measures winners k

-- every match between the slots is played, and each slot has a place
pub record IsPlayedOver {V : Type 0} (measure : V → ℕ) (values : List (Option V)) (winners : List ℕ) : Type 0 where
  pub fits : length values ≤ length winners
  pub matches : IsTournament (measure_at measure values) winners
