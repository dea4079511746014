-- The last three lines of a block, as they are put together.
use Rattle.std.proofs.Common.{◌≡◌, ℕ, List, [], ◌∷◌, ◌++◌, ap, ◌∙◌, append_assoc, append-nil}
use Rattle.std.specs.Prelude.{codes}
use Rattle.dubp_lines.specs.Lines.{unlines}

grown : (o p q x : List ℕ) → q ≡ p ++ x → p ≡ o → q ≡ o ++ x
grown o p q x e d = e ∙ ap (λ y. y ++ x) d

regrouped_parts : (a hash b nonce lf sig : List ℕ) → (((((a ++ hash) ++ (lf ++ b)) ++ nonce) ++ lf) ++ sig) ++ lf ≡ ((a ++ hash) ++ lf) ++ (((b ++ nonce) ++ lf) ++ ((sig ++ lf) ++ []))
regrouped_parts a hash b nonce lf sig = simp (append_assoc, append-nil)

regrouped : (hash nonce sig : List ℕ)
    → (((((codes "InnerHash: " ++ hash) ++ codes "\nNonce: ") ++ nonce) ++ codes "\n") ++ sig) ++ codes "\n"
    ≡ unlines ((codes "InnerHash: " ++ hash) ∷ (codes "Nonce: " ++ nonce) ∷ sig ∷ [])
regrouped hash nonce sig = regrouped_parts (codes "InnerHash: ") hash (codes "Nonce: ") nonce (10 ∷ []) sig

pub closing_is : (hash nonce sig o0 o1 o2 o3 o4 o5 o6 o7 : List ℕ) → o0 ≡ [] → o1 ≡ o0 ++ codes "InnerHash: " → o2 ≡ o1 ++ hash → o3 ≡ o2 ++ codes "\nNonce: " → o4 ≡ o3 ++ nonce → o5 ≡ o4 ++ codes "\n" → o6 ≡ o5 ++ sig → o7 ≡ o6 ++ codes "\n" → o7 ≡ unlines ((codes "InnerHash: " ++ hash) ∷ (codes "Nonce: " ++ nonce) ∷ sig ∷ [])
closing_is hash nonce sig o0 o1 o2 o3 o4 o5 o6 o7 e0 e1 e2 e3 e4 e5 e6 e7 =
    grown _ o6 o7 (codes "\n") e7 (grown _ o5 o6 sig e6 (grown _ o4 o5 (codes "\n") e5 (grown _ o3 o4 nonce e4 (grown _ o2 o3 (codes "\nNonce: ") e3 (grown _ o1 o2 hash e2 (grown [] o0 o1 (codes "InnerHash: ") e1 e0))))))
    ∙ regrouped hash nonce sig
