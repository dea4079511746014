-- The front of a block's text: what stands before its closing lines.
use Rattle.std.proofs.Common.{◌≡◌, ◌≤◌, ℕ, List, [], ◌∷◌, ◌++◌, ◌+◌, ◌-◌, ap, sym, ◌∙◌, length, take, arith}
use Rattle.std.proofs.lemmas.List.{length-append}
use Rattle.std.proofs.lemmas.List.Concat.{flat_map-append}
use Rattle.std.proofs.Math.Seq.{take-append_seam}
use Rattle.dubp_lines.specs.Lines.{unlines}
use Rattle.dubp_block.specs.Text.{inner_lines, inner_text, block_text}
use Rattle.dubp_block.specs.Parts.{closing_of}
use Rattle.dubp_block.specs.declared.block.Block.{Block}

pub text_in_two : (b : Block) → block_text b ≡ inner_text b ++ unlines (closing_of b)
unfolding block_text inner_text
text_in_two b = flat_map-append (λ l. l ++ 10 ∷ []) (inner_lines b) (closing_of b)

less_back : (n m : ℕ) → (n + m) - m ≡ n
less_back n m = omega arith

pub front_of : (front back text : List ℕ) → text ≡ front ++ back → take (length text - length back) text ≡ front
front_of front back text e =
    ap (λ (t : List ℕ). take (length t - length back) t) e
    ∙ ap (λ (n : ℕ). take (n - length back) (front ++ back)) (length-append front back)
    ∙ ap (λ (n : ℕ). take n (front ++ back)) (less_back (length front) (length back))
    ∙ take-append_seam front back

-- with the closing lines as they were put together
pub front_is : (b : Block) (text back : List ℕ) → text ≡ block_text b → back ≡ unlines (closing_of b) → take (length text - length back) text ≡ inner_text b
front_is b text back e d = front_of (inner_text b) back text (e ∙ text_in_two b ∙ ap (λ (t : List ℕ). inner_text b ++ t) (sym d))

back_within : (front back text : List ℕ) → text ≡ front ++ back → length back ≤ length text
back_within front back text e =
    let h : length text ≡ length front + length back = ap (λ (t : List ℕ). length t) e ∙ length-append front back in
    omega arith

pub closing_within : (b : Block) (text back : List ℕ) → text ≡ block_text b → back ≡ unlines (closing_of b) → length back ≤ length text
closing_within b text back e d = back_within (inner_text b) back text (e ∙ text_in_two b ∙ ap (λ (t : List ℕ). inner_text b ++ t) (sym d))
