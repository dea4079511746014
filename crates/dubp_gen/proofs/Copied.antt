-- The blocks of a ledger, copied one after another; and that it has one where a copy finds no memory.
use Rattle.std.proofs.Common.{◌≡◌, ◌≤◌, ◌<◌, ◌+◌, inl, ℕ, zero, suc, List, [], ◌∷◌, ◌++◌, length, take, reverse, slice_get, Some, None, arith, sym, ap, ◌∙◌}
use Rattle.std.proofs.lemmas.List.{length-reverse, take_more}
use Rattle.std.proofs.lemmas.Option.{get_or_from_slice_get}
use Rattle.dubp_block.specs.declared.block.Block.{Block}
use Rattle.dubp_chain.specs.Chains.{Chain, block_of_number}
use Rattle.dubp_gen.specs.declared.chain.GenRefusal.TheVariants.{NoMemory}
use Rattle.dubp_gen.specs.Generated.{Ends, IsMade, Made}

past : {X : Type 0} (xs : List X) (i : ℕ) → i < length xs → slice_get xs i ≡ None → ⊥
past [] i within none = absurd (omega (arith, within))
past (x ∷ xs) zero within none = cc
past (x ∷ xs) (suc i) within none = past xs i (omega (arith, within)) none

module _ (c : Chain) (i : ℕ) (within : i < length c) where
  within_turned : i < length (reverse c)
  within_turned = omega (arith, within, length-reverse c)

  pub copied_more : (before after : List Block) (b : Block) → block_of_number c i ≡ Some b → before ≡ take i (reverse c) → after ≡ before ++ b ∷ [] → after ≡ take (i + 1) (reverse c)
  copied_more before after b found was new =
      new ∙ ap (λ l. l ++ b ∷ []) was
      ∙ ap (λ x. take i (reverse c) ++ x ∷ []) (sym (get_or_from_slice_get (reverse c) i b b found))
      ∙ sym (take_more (reverse c) i b within_turned)

  pub found_there : block_of_number c i ≡ None → ⊥
  found_there none = past (reverse c) i within_turned none

pub ended_some : (start n : ℕ) (m : Made) → IsMade start n m → 1 ≤ length m.chain → Ends start n NoMemory
ended_some start zero m made some = absurd (omega (arith, some, ap (λ (m : Made). length m.chain) made))
ended_some start (suc n) m (before, b, (made, next)) some = (before, n, (omega arith, (made, inl tt)))
