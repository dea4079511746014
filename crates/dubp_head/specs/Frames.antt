-- The issuers of the blocks of a frame. Protocol: head values.
use Rattle.std.specs.Prelude.{ℕ, List, [], ◌∷◌, map, take}
use Rattle.dubp_atoms.specs.Same.{Text}
use Rattle.dubp_chain.specs.declared.head.Head.{Head}

-- the issuers of the last frame of these heads, newest first: as many blocks as the newest head's frame has
abbrev pub frame_issuers : List Head → List Text
frame_issuers [] = []
frame_issuers (h ∷ hs) = map (λ g. g.issuer) (take h.frame (h ∷ hs))

-- how many blocks that frame has
abbrev pub frame_of : List Head → ℕ
frame_of [] = 0
frame_of (h ∷ hs) = h.frame
