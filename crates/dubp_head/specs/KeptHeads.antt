-- What always holds of the heads of a chain and of what is kept beside them.
use Rattle.std.specs.Prelude.{◌≡◌, ◌≤◌, ◌<◌, ℕ, List, length, map, min, take}
use Rattle.dubp_time.specs.Median.{SameTimes}
use Rattle.dubp_chain.specs.declared.head.Head.{Head}
use Rattle.dubp_head.specs.Counts.{CountsState, AreCounted}
use Rattle.dubp_head.specs.Frames.{frame_of}
use Rattle.dubp_head.specs.LastBlocks.{IssuersState, AreIssuers}
use Rattle.dubp_head.specs.LastTimes.{TimesState}
use Rattle.dubp_head.specs.Totals.{SizesState, AreTotals}

-- the counts are those of the last frame of these heads, newest first
pub record IsFrameKept (list : List Head) (cs : CountsState) : Type 0 where
  pub counted : AreCounted cs (map (λ h. h.issuer) list)
  pub blocks : cs.blocks ≡ min (frame_of list) (length list)

-- of the heads, newest first: the issuers are theirs, the counts are those of their last frame, the sizes are summed up, and the times are
-- those of the last n of them
pub record AreKept (list : List Head) (is : IssuersState) (cs : CountsState) (ss : SizesState) (ts : TimesState) (n : ℕ) : Type 0 where
  pub issuers : AreIssuers is (map (λ h. h.issuer) list)
  pub frame : IsFrameKept list cs
  pub sizes : AreTotals ss list
  pub times : SameTimes ts.times (map (λ h. h.time) (take n list))
  pub count : length ts.times ≡ min n (length list)
  pub width : n ≤ ts.width
  pub span : 0 < length list → 0 < n
