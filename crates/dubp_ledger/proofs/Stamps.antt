-- The stamp of a head is that of its block.
use Rattle.std.specs.Prelude.{option_map, slice_get}
use Rattle.std.proofs.Common.{◌≡◌, ℕ, zero, suc, List, [], ◌∷◌, length, Some, refl, ap, ◌∙◌}
use Rattle.dubp_params.specs.declared.params.Params.{Params}
use Rattle.dubp_block.specs.declared.block.Block.{Block}
use Rattle.dubp_block.specs.Text.{stamp_of}
use Rattle.dubp_chain.specs.declared.head.Head.{Head}
use Rattle.dubp_chain.specs.HeadStamp.{head_stamp}
use Rattle.dubp_chain.specs.Chains.{Chain, params}
use Rattle.dubp_chain.specs.Members.{members}
use Rattle.dubp_chain.specs.Heads.{heads_of, head_of, next_head}

stamp_by : (p : Params) (n : ℕ) (hs : List Head) (b : Block) → head_stamp (next_head p n hs b) ≡ stamp_of b
stamp_by p n [] b = refl
stamp_by p n (h ∷ hs) b = refl

pub stamp_is : (c : Chain) (b : Block) (h : Head) → head_of (b ∷ c) ≡ Some h → head_stamp h ≡ stamp_of b
stamp_is c b h is =
    let same : h ≡ next_head (params (b ∷ c)) (length (members (b ∷ c))) (heads_of c) b = cc in
    ap head_stamp same ∙ stamp_by (params (b ∷ c)) (length (members (b ∷ c))) (heads_of c) b

-- and so along the chain
pub stamp_at : (c : Chain) (i : ℕ) → option_map head_stamp (slice_get (heads_of c) i) ≡ option_map stamp_of (slice_get c i)
stamp_at [] i = refl
stamp_at (b ∷ c) zero = ap Some (stamp_by (params (b ∷ c)) (length (members (b ∷ c))) (heads_of c) b)
stamp_at (b ∷ c) (suc i) = stamp_at c i
