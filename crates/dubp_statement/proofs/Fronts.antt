-- The first blocks of a chain, one more at a time.
use Rattle.std.proofs.Common.{◌≡◌, ℕ, ◌+◌, ◌-◌, [], ◌∷◌, ◌++◌, append_assoc, drop, length, length-append, ap, sym, ◌∙◌, arith}
use Rattle.std.proofs.lemmas.List.{drop_all}
use Rattle.std.proofs.Math.Seq.{drop-append_seam}
use Rattle.dubp_chain.specs.OfBlock.{Block}
use Rattle.dubp_chain.specs.declared.head.Head.{Head}
use Rattle.dubp_chain.specs.Chains.{Chain}
use Rattle.dubp_ledger.specs.OfKept.{LeftBehind}
use Rattle.dubp_ledger.specs.Written.{IsWrittenAt}
use Rattle.dubp_statement.specs.Fronts.{first_blocks}

pub none_first : (c : Chain) → first_blocks 0 c ≡ []
none_first c = drop_all (length c - 0) c (omega arith)

pub all_first : (c : Chain) (n : ℕ) → n ≡ length c → first_blocks n c ≡ c
all_first c n is = let none : length c - n ≡ 0 = omega (arith, is) in ap (λ k. drop k c) none

-- what stands below the first of two parts of a chain
below : (above under c : Chain) (n : ℕ) → c ≡ above ++ under → length under ≡ n → first_blocks n c ≡ under
below above under c n whole is =
    let count : length c - n ≡ length above = omega (arith, ap length whole, length-append above under, is) in
    ap (λ k. drop k c) count ∙ ap (drop (length above)) whole ∙ drop-append_seam above under

module _ (c : Chain) (number : ℕ) (b : Block) (h : Head) (l : LeftBehind) (w : IsWrittenAt c number b h l) where
  pub first_below : first_blocks number c ≡ w.below
  first_below = below (w.above ++ b ∷ []) w.below c number (w.is ∙ sym (append_assoc w.above (b ∷ []) w.below)) w.number_is

  pub first_with : first_blocks (number + 1) c ≡ b ∷ w.below
  first_with = below w.above (b ∷ w.below) c (number + 1) w.is (omega (arith, w.number_is))
