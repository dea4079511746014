-- The lines that a block's issuer signs, and behind them the signature.
use Rattle.std.proofs.Common.{◌≡◌, ℕ, List, [], ◌∷◌, ◌++◌, decimal, append_assoc, append-nil}
use Rattle.std.specs.Prelude.{codes}
use Rattle.dubp_block.specs.declared.block.Block.{Block}
use Rattle.dubp_block.specs.Text.{signed_lines, signed_text}
use Rattle.dubp_lines.specs.Lines.{unlines}

regrouped : (a b lf sig : List ℕ) → (((a ++ lf) ++ ((b ++ lf) ++ [])) ++ sig) ++ lf ≡ (a ++ lf) ++ ((b ++ lf) ++ ((sig ++ lf) ++ []))
regrouped a b lf sig = simp (append_assoc, append-nil)

pub closing_text : (b : Block) (sig : List ℕ) → sig ≡ b.sig → (signed_text b ++ sig) ++ codes "\n" ≡ unlines (signed_lines b ++ b.sig ∷ [])
unfolding signed_text
closing_text b sig is =
    rw is (regrouped (codes "InnerHash: " ++ b.inner_hash) (codes "Nonce: " ++ decimal b.nonce) (10 ∷ []) b.sig)
