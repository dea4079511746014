-- The parts of a block's text as the code writes them, one function a part.
use Rattle.std.specs.Prelude.{ℕ, List, [], ◌∷◌, ◌++◌}
use Rattle.dubp_block.specs.Text.{opening_lines, issuer_lines, signed_lines}
use Rattle.dubp_block.specs.declared.block.Block.{Block}

-- from Version to MedianTime
abbrev pub opening_of : Block → List (List ℕ)
opening_of b = opening_lines b.version b.currency b.number b.pow_min b.time b.median_time

-- from UnitBase to DifferentIssuersCount
abbrev pub issuing_of : Block → List (List ℕ)
issuing_of b = issuer_lines b.unit_base b.issuer b.frame b.frame_var b.issuers

-- InnerHash, Nonce and the signature
abbrev pub closing_of : Block → List (List ℕ)
closing_of b = signed_lines b ++ b.sig ∷ []
