-- An index stands for a chain of states, newest first: each state is its rows after a block. What a block leaves is said above,
-- where the chain of blocks is known.
use Rattle.std.specs.Prelude.{List, [], ◌∷◌}

module _ {S : Type 0} where
  -- the state after the last block; before the first it is that in which nothing stands
  abbrev pub newest : S → List S → S
  newest nothing [] = nothing
  newest nothing (state ∷ states) = state

-- the states after each block of a chain, where `after` says which one a chain leaves
abbrev pub states : {B S : Type 0} → (List B → S) → List B → List S
states after [] = []
states after (b ∷ c) = after (b ∷ c) ∷ states after c
