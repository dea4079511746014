-- The first block of a chain, behind which other blocks stand or are held.
use Rattle.std.proofs.Common.{◌≡◌, ◌∙◌, ◌-◌, List, [], ◌∷◌, ◌++◌, length, reverse, slice_get, Some, None, refl, ap, arith}
use Rattle.std.proofs.lemmas.List.{reverse-append}
use Rattle.dubp_block.specs.declared.block.Block.{Block}
use Rattle.dubp_chain.specs.Chains.{Chain, first_block}

first_behind : (c : Chain) (b : Block) → first_block (c ++ b ∷ []) ≡ Some b
first_behind [] b = refl
first_behind (a ∷ []) b = refl
first_behind (a ∷ d ∷ c) b = first_behind (d ∷ c) b

pub first_turned : (blocks : List Block) → first_block (reverse blocks) ≡ slice_get blocks 0
first_turned [] = refl
first_turned (b ∷ blocks) = ap first_block (reverse-append (b ∷ []) blocks) ∙ first_behind (reverse blocks) b

last_at : (b : Block) (c : Chain) → first_block (b ∷ c) ≡ slice_get (b ∷ c) (length c)
last_at b [] = refl
last_at b (a ∷ c) = last_at a c

pub first_last : (c : Chain) → first_block c ≡ slice_get c (length c - 1)
first_last [] = refl
first_last (b ∷ c) = let one_less : length c ≡ length (b ∷ c) - 1 = omega arith in last_at b c ∙ ap (slice_get (b ∷ c)) one_less

-- the first block of a chain, with blocks behind it
pub first_behind_some : (held c : Chain) (b : Block) → first_block c ≡ Some b → first_block (held ++ c) ≡ Some b
first_behind_some [] c b e = e
first_behind_some (a ∷ []) [] b e = absurd cc
first_behind_some (a ∷ []) (d ∷ c) b e = e
first_behind_some (a ∷ d ∷ held) c b e = first_behind_some (d ∷ held) c b e

some_first : (b : Block) (c : Chain) → first_block (b ∷ c) ≡ None → ⊥
some_first b [] e = cc
some_first b (a ∷ c) e = some_first a c e

pub first_behind_none : (held c : Chain) → first_block c ≡ None → first_block (held ++ c) ≡ first_block held
first_behind_none [] [] e = refl
first_behind_none (a ∷ []) [] e = refl
first_behind_none (a ∷ d ∷ held) [] e = first_behind_none (d ∷ held) [] e
first_behind_none held (b ∷ c) e = absurd (some_first b c e)
