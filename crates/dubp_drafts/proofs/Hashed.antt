-- The texts that are hashed for a nonce, as the code puts them together.
use Rattle.std.proofs.Common.{◌≡◌, ℕ, List, [], ◌∷◌, ◌++◌, codes, decimal, refl, ap, ◌∙◌, append_assoc, append-nil}
use Rattle.dubp_atoms.specs.Hashing.{hash_of}
use Rattle.dubp_lines.specs.Lines.{unlines}
use Rattle.dubp_block.specs.declared.block.Block.{Block}
use Rattle.dubp_block.specs.Text.{signed_text}
use Rattle.dubp_drafts.specs.Begun.{before_nonce}
use Rattle.dubp_drafts.specs.Sealing.{hash_as_signature, signature_of, signed, hash_with}

-- the lines that are signed, by inner hash and nonce
abbrev pub signed_lines_of : List ℕ → ℕ → List (List ℕ)
signed_lines_of inner_hash nonce = (codes "InnerHash: " ++ inner_hash) ∷ (codes "Nonce: " ++ decimal nonce) ∷ []

-- the hash of a block with its signature, by key, inner hash and nonce
abbrev pub signed_hash : List ℕ → List ℕ → ℕ → List ℕ
signed_hash key inner_hash nonce =
    hash_of (unlines (signed_lines_of inner_hash nonce ++ signature_of key (unlines (signed_lines_of inner_hash nonce)) ∷ []))

signed_parts : (a inner_hash lf b nonce : List ℕ) → (a ++ (inner_hash ++ (lf ++ b))) ++ (nonce ++ lf) ≡ ((a ++ inner_hash) ++ lf) ++ (((b ++ nonce) ++ lf) ++ [])
signed_parts a inner_hash lf b nonce = simp (append_assoc, append-nil)

-- the signed text
pub signed_is : (inner_hash : List ℕ) (nonce : ℕ) → before_nonce inner_hash ++ (decimal nonce ++ codes "\n") ≡ unlines (signed_lines_of inner_hash nonce)
signed_is inner_hash nonce = signed_parts (codes "InnerHash: ") inner_hash (codes "\n") (codes "Nonce: ") (decimal nonce)

hashed_parts : (a inner_hash lf b nonce sig : List ℕ)
    → (a ++ (inner_hash ++ (lf ++ b))) ++ (((nonce ++ lf) ++ sig) ++ lf) ≡ ((a ++ inner_hash) ++ lf) ++ (((b ++ nonce) ++ lf) ++ ((sig ++ lf) ++ []))
hashed_parts a inner_hash lf b nonce sig = simp (append_assoc, append-nil)

-- the text whose hash is that of the block
pub hashed_is : (inner_hash : List ℕ) (nonce : ℕ) (sig : List ℕ)
    → before_nonce inner_hash ++ (((decimal nonce ++ codes "\n") ++ sig) ++ codes "\n") ≡ unlines (signed_lines_of inner_hash nonce ++ sig ∷ [])
hashed_is inner_hash nonce sig = hashed_parts (codes "InnerHash: ") inner_hash (codes "\n") (codes "Nonce: ") (decimal nonce) sig

-- the hash of a block from two texts that were begun
pub signed_hash_is : (key inner_hash : List ℕ) (nonce : ℕ) (line message text hash : List ℕ)
    → line ≡ decimal nonce ++ codes "\n"
    → message ≡ hash_of ((key ++ before_nonce inner_hash) ++ line)
    → text ≡ (line ++ hash_as_signature message) ++ codes "\n"
    → hash ≡ hash_of (before_nonce inner_hash ++ text)
    → hash ≡ signed_hash key inner_hash nonce
signed_hash_is key inner_hash nonce line message text hash line_is message_is text_is hash_is =
    let whole : message ≡ hash_of (key ++ unlines (signed_lines_of inner_hash nonce)) =
    message_is ∙ ap hash_of (append_assoc key (before_nonce inner_hash) line ∙ ap (λ l. key ++ l) (ap (λ l. before_nonce inner_hash ++ l) line_is ∙ signed_is inner_hash nonce)) in
    let sig = hash_as_signature message in
    hash_is ∙ ap hash_of (ap (λ t. before_nonce inner_hash ++ t) (text_is ∙ ap (λ l. (l ++ sig) ++ codes "\n") line_is)
    ∙ (hashed_is inner_hash nonce sig ∙ ap (λ m. unlines (signed_lines_of inner_hash nonce ++ hash_as_signature m ∷ [])) whole))

-- the hash of a block with a nonce and its signature
pub hash_with_is : (b : Block) (nonce : ℕ) → hash_with b nonce ≡ signed_hash b.issuer b.inner_hash nonce
unfolding signed_text
hash_with_is b nonce = refl

grown : (o p q x : List ℕ) → q ≡ p ++ x → p ≡ o → q ≡ o ++ x
grown o p q x e d = e ∙ ap (λ y. y ++ x) d

written_parts : (a inner_hash lf b nonce : List ℕ) → (((a ++ inner_hash) ++ (lf ++ b)) ++ nonce) ++ lf ≡ ((a ++ inner_hash) ++ lf) ++ (((b ++ nonce) ++ lf) ++ [])
written_parts a inner_hash lf b nonce = simp (append_assoc, append-nil)

-- the signed text as it is written
pub written_is : (inner_hash : List ℕ) (nonce : ℕ) (o0 o1 o2 o3 o4 o5 : List ℕ)
    → o0 ≡ [] → o1 ≡ o0 ++ codes "InnerHash: " → o2 ≡ o1 ++ inner_hash → o3 ≡ o2 ++ codes "\nNonce: " → o4 ≡ o3 ++ decimal nonce → o5 ≡ o4 ++ codes "\n"
    → o5 ≡ unlines (signed_lines_of inner_hash nonce)
written_is inner_hash nonce o0 o1 o2 o3 o4 o5 e0 e1 e2 e3 e4 e5 =
    grown _ o4 o5 (codes "\n") e5 (grown _ o3 o4 (decimal nonce) e4 (grown _ o2 o3 (codes "\nNonce: ") e3 (grown _ o1 o2 inner_hash e2 (grown [] o0 o1 (codes "InnerHash: ") e1 e0))))
    ∙ written_parts (codes "InnerHash: ") inner_hash (codes "\n") (codes "Nonce: ") (decimal nonce)

-- what is signed does not have the signature
pub signed_text-signed : (b : Block) → signed_text (signed b) ≡ signed_text b
unfolding signed_text
signed_text-signed b = refl
