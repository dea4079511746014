-- The two lines that the issuer of a block signs, as they are put together.
use Rattle.std.proofs.Common.{◌≡◌, ℕ, List, [], ◌∷◌, ◌++◌, decimal, append-nil}
use Rattle.std.specs.Prelude.{codes}
use Rattle.dubp_block.specs.declared.block.Block.{Block}
use Rattle.dubp_block.specs.Text.{signed_text}

two_lines : (a b lf : List ℕ) → (a ++ lf) ++ (b ++ lf) ≡ (a ++ lf) ++ ((b ++ lf) ++ [])
two_lines a b lf = simp (append-nil)

pub signing_is : (b : Block) (hash : List ℕ) → hash ≡ b.inner_hash
    → ((codes "InnerHash: " ++ hash) ++ 10 ∷ []) ++ ((codes "Nonce: " ++ decimal b.nonce) ++ 10 ∷ []) ≡ signed_text b
unfolding signed_text
signing_is b hash is = rw is (two_lines (codes "InnerHash: " ++ b.inner_hash) (codes "Nonce: " ++ decimal b.nonce) (10 ∷ []))
