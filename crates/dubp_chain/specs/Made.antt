-- When what a line of a block names was made. Protocol: the time of a stamp.
use Rattle.std.specs.Prelude.{ℕ, ◌==◌, [], ◌∷◌, Option, Some, None, option_map, find, if◌then◌else◌}
use Rattle.dubp_time.specs.OfAtoms.{same_stamp, empty_stamp}
use Rattle.dubp_time.specs.OfAtoms.{Stamp}
use Rattle.dubp_block.specs.declared.block.Block.{Block}
use Rattle.dubp_block.specs.declared.block.CertLine.{CertLine}
use Rattle.dubp_chain.specs.declared.head.Head.{Head}
use Rattle.dubp_chain.specs.HeadStamp.{head_stamp}
use Rattle.dubp_chain.specs.Chains.{Chain}
use Rattle.dubp_chain.specs.Heads.{heads_of}

-- the head at the block of this stamp, and at that of this number
abbrev pub head_stamped : Chain → Stamp → Option Head
head_stamped c s = find (λ h. same_stamp s (head_stamp h)) (heads_of c)

abbrev pub head_numbered : Chain → ℕ → Option Head
head_numbered c number = find (λ h. h.number == number) (heads_of c)

-- The median time of the block that the stamp in a line of b names. On the empty chain only the stamp of the empty text has a
-- time, which is the MedianTime of b.
abbrev pub made : Chain → Block → Stamp → Option ℕ
made [] b s = if same_stamp empty_stamp s then Some b.median_time else None
made (a ∷ c) b s = option_map (λ h. h.median_time) (head_stamped (a ∷ c) s)

-- A certification names the block that it was made on by its number. On the empty chain it was made on the empty text.
abbrev pub certification_stamp : Chain → CertLine → Option Stamp
certification_stamp [] line = Some empty_stamp
certification_stamp (a ∷ c) line = option_map head_stamp (head_numbered (a ∷ c) line.number)

abbrev pub certification_made : Chain → Block → CertLine → Option ℕ
certification_made [] b line = Some b.median_time
certification_made (a ∷ c) b line = option_map (λ h. h.median_time) (head_numbered (a ∷ c) line.number)
