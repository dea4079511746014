-- Facts on the chain of blocks that stand oldest first, and on its heads.
use Rattle.std.proofs.Common.{◌≡◌, ℕ, suc, List, [], ◌∷◌, ◌++◌, length, reverse, slice_get, Some, None, refl, ap, ◌∙◌}
use Rattle.std.proofs.lemmas.List.{reverse-append}
use Rattle.dubp_block.specs.declared.block.Block.{Block}
use Rattle.dubp_chain.specs.Chains.{Chain, first_block}
use Rattle.dubp_chain.specs.Heads.{heads_of, next_head}
use Rattle.dubp_chain.specs.declared.head.Head.{Head}
use Rattle.dubp_params.specs.declared.params.Params.{Params}

-- as many heads as blocks
pub length_heads : (c : Chain) → length (heads_of c) ≡ length c
length_heads [] = refl
length_heads (b ∷ c) = ap suc (length_heads c)

-- the first block of a chain that stands oldest first
first_behind : (c : Chain) (b : Block) → first_block (c ++ b ∷ []) ≡ Some b
first_behind [] b = refl
first_behind (a ∷ []) b = refl
first_behind (a ∷ d ∷ c) b = first_behind (d ∷ c) b

pub first_turned : (blocks : List Block) → first_block (reverse blocks) ≡ slice_get blocks 0
first_turned [] = refl
first_turned (b ∷ blocks) = ap first_block (reverse-append (b ∷ []) blocks) ∙ first_behind (reverse blocks) b

-- one block more changes the first of no chain that has one
pub first_with : (c : Chain) (b a : Block) → first_block c ≡ Some a → first_block (b ∷ c) ≡ Some a
first_with [] b a e = absurd cc
first_with (d ∷ c) b a e = e

pub first_without : (c : Chain) (b : Block) → first_block c ≡ None → first_block (b ∷ c) ≡ Some b
first_without [] b e = refl
first_without (a ∷ []) b e = absurd cc
first_without (a ∷ d ∷ c) b e = absurd (some_first d c e)
  where
    some_first : (x : Block) (xs : Chain) → first_block (x ∷ xs) ≡ None → ⊥
    some_first x [] f = cc
    some_first x (y ∷ ys) f = some_first y ys f

-- the version of a head is that of its block
version_of : (p : Params) (n : ℕ) (hs : List Head) (b : Block) → (next_head p n hs b).version ≡ b.version
version_of p n [] b = refl
version_of p n (h ∷ hs) b = refl
