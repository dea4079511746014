-- Lines as the code puts them together from their parts.
use Rattle.std.proofs.Common.{◌≡◌, ℕ, ◌-◌, ap, ◌∙◌}
use Rattle.dubp_atoms.specs.Same.{Text}
use Rattle.dubp_atoms.specs.declared.stamp.Stamp.{Stamp}
use Rattle.dubp_docs.specs.Spelling.{signed_text}
use Rattle.dubp_docs.specs.declared.doc.Doc.{Doc}
use Rattle.dubp_drafts.specs.Keys.{key_text, uid_text}
use Rattle.dubp_drafts.specs.Sealing.{signature_of}
use Rattle.dubp_drafts.specs.Drafting.{identity_document, identity_line, membership_document, member_line, certification_document, certification_line}

signature_is : (key k : Text) (document d : Doc) (sig : Text) → key ≡ k → document ≡ d → sig ≡ signature_of key (signed_text document) → sig ≡ signature_of k (signed_text d)
signature_is key k document d sig of_key of_document of_sig =
    of_sig ∙ ap (λ x. signature_of x (signed_text document)) of_key ∙ ap (λ x. signature_of k (signed_text x)) of_document

pub identity_line_is : (s : Stamp) (person : ℕ) (key sig uid : Text) (document : Doc)
    → key ≡ key_text person
    → document ≡ identity_document s person
    → sig ≡ signature_of key (signed_text document)
    → uid ≡ uid_text person
    → record { key = key; sig = sig; stamp = s; uid = uid } ≡ identity_line s person
identity_line_is s person key sig uid document k d g u =
    let e = signature_is key (key_text person) document (identity_document s person) sig k d g in
    λ i. record { key = k i; sig = e i; stamp = s; uid = u i }

pub member_line_is : (s since : Stamp) (person : ℕ) (key sig uid : Text) (document : Doc)
    → key ≡ key_text person
    → document ≡ membership_document s since person
    → sig ≡ signature_of key (signed_text document)
    → uid ≡ uid_text person
    → record { key = key; sig = sig; stamp = s; identity_stamp = since; uid = uid } ≡ member_line s since person
member_line_is s since person key sig uid document k d g u =
    let e = signature_is key (key_text person) document (membership_document s since person) sig k d g in
    λ i. record { key = k i; sig = e i; stamp = s; identity_stamp = since; uid = u i }

pub certification_line_is : (n : ℕ) (s : Stamp) (pair : ℕ × ℕ) (from to : Text) (number : ℕ) (sig : Text) (document : Doc)
    → from ≡ key_text pair.0
    → to ≡ key_text pair.1
    → number ≡ n - 1
    → document ≡ certification_document s pair
    → sig ≡ signature_of from (signed_text document)
    → record { from = from; to = to; number = number; sig = sig } ≡ certification_line n s pair
certification_line_is n s pair from to number sig document f t m d g =
    let e = signature_is from (key_text pair.0) document (certification_document s pair) sig f d g in
    λ i. record { from = f i; to = t i; number = m i; sig = e i }
