-- What contracts see of the heads of a chain. Protocol: head values.
use Rattle.std.specs.Prelude.{◌≡◌, ◌⊎◌, ◌≤◌, ℕ, List, [], Option, map, take}
use Rattle.dubp_time.specs.Median.{median_of}
use Rattle.dubp_params.specs.declared.params.Params.{Params}
use Rattle.dubp_chain.specs.declared.head.Head.{Head}

-- The heads of a chain, newest first. For `room` heads, and over at most `width` blocks, none takes memory to come back. The median of
-- their times is taken over the last `span` blocks.
pub record HeadsState : Type 0 where
  pub list : List Head
  pub room : ℕ
  pub width : ℕ
  pub span : ℕ

-- the parameters are those of the chain whose heads these are
abbrev pub AreOver : HeadsState → Params → Type 0
AreOver s p = (s.list ≡ []) ⊎ (s.span ≡ p.median_time_blocks)

-- neither number falls
pub record KeepsRoom (old new : HeadsState) : Type 0 where
  pub room : old.room ≤ new.room
  pub width : old.width ≤ new.width

-- the median of the times of the last blocks; none where there is no block
abbrev pub median_over : HeadsState → Option ℕ
median_over s = median_of (map (λ h. h.time) (take s.span s.list))
