-- The one text of a document, the part of it that is signed, and which documents have a text. Protocol: documents.
use Rattle.std.specs.Prelude.{◌≡◌, ℕ, Bool, true, false, List, [], ◌∷◌, ◌++◌, codes, decimal, map}
use Rattle.dubp_atoms.specs.Same.{Text}
use Rattle.dubp_atoms.specs.Letters.{is_key, is_uid, is_currency, is_sig}
use Rattle.dubp_atoms.specs.Spelling.{stamp_text, IsStamp}
use Rattle.dubp_atoms.specs.Hashing.{hash_of}
use Rattle.dubp_lines.specs.Lines.{unlines}
use Rattle.dubp_cond.specs.Sources.{input_text}
use Rattle.dubp_cond.specs.Unlocks.{unlock_line_text}
use Rattle.dubp_cond.specs.Outputs.{output_text}
use Rattle.dubp_cond.specs.Transactions.{IsTx}
use Rattle.dubp_cond.specs.declared.tx.Tx.{Tx}
use Rattle.dubp_docs.specs.declared.doc.IdentityDoc.{IdentityDoc}
use Rattle.dubp_docs.specs.declared.doc.RevocationDoc.{RevocationDoc}
use Rattle.dubp_docs.specs.declared.doc.CertificationDoc.{CertificationDoc}
use Rattle.dubp_docs.specs.declared.doc.MembershipDoc.{MembershipDoc}
use Rattle.dubp_docs.specs.declared.doc.TxDoc.{TxDoc}
use Rattle.dubp_docs.specs.declared.doc.Doc.{Doc}
use Rattle.dubp_docs.specs.declared.doc.Doc.TheVariants.{Identity, Revocation, Certification, Membership, Transaction}

-- the first three lines
abbrev pub opening_lines : List ℕ → Text → List Text
opening_lines type currency = codes "Version: 10" ∷ (codes "Type: " ++ type) ∷ (codes "Currency: " ++ currency) ∷ []

abbrev pub identity_lines : IdentityDoc → List Text
identity_lines d =
    opening_lines (codes "Identity") d.currency
    ++ (codes "Issuer: " ++ d.issuer)
    ∷ (codes "UniqueID: " ++ d.unique_id)
    ∷ (codes "Timestamp: " ++ stamp_text d.timestamp)
    ∷ []

abbrev pub revocation_lines : RevocationDoc → List Text
revocation_lines d =
    opening_lines (codes "Revocation") d.currency
    ++ (codes "Issuer: " ++ d.issuer)
    ∷ (codes "IdtyUniqueID: " ++ d.idty_unique_id)
    ∷ (codes "IdtyTimestamp: " ++ stamp_text d.idty_timestamp)
    ∷ (codes "IdtySignature: " ++ d.idty_signature)
    ∷ []

abbrev pub certification_lines : CertificationDoc → List Text
certification_lines d =
    opening_lines (codes "Certification") d.currency
    ++ (codes "Issuer: " ++ d.issuer)
    ∷ (codes "IdtyIssuer: " ++ d.idty_issuer)
    ∷ (codes "IdtyUniqueID: " ++ d.idty_unique_id)
    ∷ (codes "IdtyTimestamp: " ++ stamp_text d.idty_timestamp)
    ∷ (codes "IdtySignature: " ++ d.idty_signature)
    ∷ (codes "CertTimestamp: " ++ stamp_text d.cert_timestamp)
    ∷ []

abbrev pub direction_text : Bool → List ℕ
direction_text true = codes "IN"
direction_text false = codes "OUT"

abbrev pub membership_lines : MembershipDoc → List Text
membership_lines d =
    opening_lines (codes "Membership") d.currency
    ++ (codes "Issuer: " ++ d.issuer)
    ∷ (codes "Block: " ++ stamp_text d.block)
    ∷ (codes "Membership: " ++ direction_text d.membership)
    ∷ (codes "UserID: " ++ d.user_id)
    ∷ (codes "CertTS: " ++ stamp_text d.cert_ts)
    ∷ []

-- a transaction up to its signatures
abbrev pub transaction_lines : Text → Tx → List Text
transaction_lines currency tx =
    opening_lines (codes "Transaction") currency
    ++ (codes "Blockstamp: " ++ stamp_text tx.stamp)
    ∷ (codes "Locktime: " ++ decimal tx.locktime)
    ∷ codes "Issuers:" ∷ tx.issuers
    ++ codes "Inputs:" ∷ map input_text tx.inputs
    ++ codes "Unlocks:" ∷ map unlock_line_text tx.unlocks
    ++ codes "Outputs:" ∷ map output_text tx.outputs
    ++ (codes "Comment: " ++ tx.comment) ∷ []

-- the lines that are signed
abbrev pub signed_lines : Doc → List Text
signed_lines (Identity d) = identity_lines d
signed_lines (Revocation d) = revocation_lines d
signed_lines (Certification d) = certification_lines d
signed_lines (Membership d) = membership_lines d
signed_lines (Transaction d) = transaction_lines d.currency d.tx

-- the lines of signatures behind them: one, or one for each issuer of a transaction
abbrev pub signature_lines : Doc → List Text
signature_lines (Identity d) = d.sig ∷ []
signature_lines (Revocation d) = d.sig ∷ []
signature_lines (Certification d) = d.sig ∷ []
signature_lines (Membership d) = d.sig ∷ []
signature_lines (Transaction d) = d.tx.sigs

-- the text that is signed; the whole text
unfoldable pub signed_text : Doc → List ℕ
signed_text d = unlines (signed_lines d)

unfoldable pub doc_text : Doc → List ℕ
doc_text d = unlines (signed_lines d ++ signature_lines d)

-- the signed text and the hash of a transaction of this currency; the hash is over the whole text
abbrev pub signed_tx : Text → Tx → List ℕ
signed_tx currency tx = signed_text (Transaction (record { currency = currency; tx = tx }))

unfoldable pub tx_hash : Text → Tx → Text
tx_hash currency tx = hash_of (doc_text (Transaction (record { currency = currency; tx = tx })))

pub record IsIdentityDoc (d : IdentityDoc) : Type 0 where
  pub currency : is_currency d.currency ≡ true
  pub issuer : is_key d.issuer ≡ true
  pub unique_id : is_uid d.unique_id ≡ true
  pub timestamp : IsStamp d.timestamp
  pub sig : is_sig d.sig ≡ true

pub record IsRevocationDoc (d : RevocationDoc) : Type 0 where
  pub currency : is_currency d.currency ≡ true
  pub issuer : is_key d.issuer ≡ true
  pub idty_unique_id : is_uid d.idty_unique_id ≡ true
  pub idty_timestamp : IsStamp d.idty_timestamp
  pub idty_signature : is_sig d.idty_signature ≡ true
  pub sig : is_sig d.sig ≡ true

pub record IsCertificationDoc (d : CertificationDoc) : Type 0 where
  pub currency : is_currency d.currency ≡ true
  pub issuer : is_key d.issuer ≡ true
  pub idty_issuer : is_key d.idty_issuer ≡ true
  pub idty_unique_id : is_uid d.idty_unique_id ≡ true
  pub idty_timestamp : IsStamp d.idty_timestamp
  pub idty_signature : is_sig d.idty_signature ≡ true
  pub cert_timestamp : IsStamp d.cert_timestamp
  pub sig : is_sig d.sig ≡ true

pub record IsMembershipDoc (d : MembershipDoc) : Type 0 where
  pub currency : is_currency d.currency ≡ true
  pub issuer : is_key d.issuer ≡ true
  pub block : IsStamp d.block
  pub user_id : is_uid d.user_id ≡ true
  pub cert_ts : IsStamp d.cert_ts
  pub sig : is_sig d.sig ≡ true

pub record IsTxDoc (d : TxDoc) : Type 0 where
  pub currency : is_currency d.currency ≡ true
  pub tx : IsTx d.tx

-- the document has a text
abbrev pub IsDoc : Doc → Type 0
IsDoc (Identity d) = IsIdentityDoc d
IsDoc (Revocation d) = IsRevocationDoc d
IsDoc (Certification d) = IsCertificationDoc d
IsDoc (Membership d) = IsMembershipDoc d
IsDoc (Transaction d) = IsTxDoc d
