-- States along a chain of blocks, newest first: whose states those of a table are.
use Rattle.std.proofs.Common.{ℕ, zero, suc, ◌≤◌, List, [], ◌∷◌, length, drop, arith}
use Rattle.std.specs.Prelude.{⊤}
use Rattle.dubp_moving.specs.Others.{but_last}

module _ {X B : Type 0} (P : X → List B → Type 0) where
  -- x is that of the chain c, and each kept one (last first) that of the chain before its block
  abbrev pub Stands : X → List X → List B → Type 0
  Stands x [] c = P x c
  Stands x (y ∷ k) [] = ⊥
  Stands x (y ∷ k) (b ∷ c) = P x (b ∷ c) × Stands y k c

  -- what is ahead (next first) was taken off the chain o, of which so many blocks are off
  abbrev pub Waits : List X → List B → ℕ → Type 0
  Waits [] o zero = ⊤
  Waits [] o (suc i) = ⊥
  Waits (x ∷ a) o zero = ⊥
  Waits (x ∷ a) o (suc i) = P x (drop i o) × Waits a o i

  -- the state now is that of the chain
  pub stands_now : (x : X) (k : List X) (c : List B) → Stands x k c → P x c
  stands_now x [] c s = s
  stands_now x (y ∷ k) [] s = absurd s
  stands_now x (y ∷ k) (b ∷ c) s = s.0

  -- the last kept state is that of the chain before its newest block
  pub stands_back : (x y : X) (k : List X) (c : List B) → Stands x (y ∷ k) c → Stands y k (drop 1 c)
  stands_back x y k [] s = absurd s
  stands_back x y k (b ∷ c) s = s.1

  -- no more states are kept than there are blocks
  pub stands_length : (x : X) (k : List X) (c : List B) → Stands x k c → length k ≤ length c
  stands_length x [] c s = omega arith
  stands_length x (y ∷ k) [] s = absurd s
  stands_length x (y ∷ k) (b ∷ c) s = let rest = stands_length y k c s.1 in omega (arith, rest)

  -- without the oldest
  pub stands_but_last : (x : X) (k : List X) (c : List B) → Stands x k c → Stands x (but_last k) c
  stands_but_last x [] c s = s
  stands_but_last x (y ∷ k) [] s = absurd s
  stands_but_last x (y ∷ []) (b ∷ c) s = s.0
  stands_but_last x (y ∷ z ∷ k) (b ∷ c) s = (s.0, stands_but_last y (z ∷ k) c s.1)

module _ {X B : Type 0} (P Q : X → List B → Type 0) (stays : (x : X) (c : List B) → P x c → Q x c) where
  -- and by other names
  pub stands_stay : (x : X) (k : List X) (c : List B) → Stands P x k c → Stands Q x k c
  stands_stay x [] c s = stays x c s
  stands_stay x (y ∷ k) [] s = absurd s
  stands_stay x (y ∷ k) (b ∷ c) s = (stays x (b ∷ c) s.0, stands_stay y k c s.1)

  pub waits_stay : (a : List X) (o : List B) (i : ℕ) → Waits P a o i → Waits Q a o i
  waits_stay [] o zero w = tt
  waits_stay [] o (suc i) w = absurd w
  waits_stay (x ∷ a) o zero w = absurd w
  waits_stay (x ∷ a) o (suc i) w = (stays x (drop i o) w.0, waits_stay a o i w.1)
