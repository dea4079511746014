-- How the code reads a document, line after line; an Err has how many lines are left. The laws that join it to a document's text
-- stand in the contract of `read_doc`.
use Rattle.std.specs.Prelude.{ℕ, ◌+◌, zero, suc, ◌==◌, Bool, true, false, List, [], ◌∷◌, length, codes, Option, Some, None, option_map, Result, Ok, Err, if◌then◌else◌}
use Rattle.dubp_atoms.specs.Letters.{is_key, is_uid, is_currency, is_sig}
use Rattle.dubp_atoms.specs.Reading.{text_if, number_of, stamp_of}
use Rattle.dubp_lines.specs.Lines.{Place}
use Rattle.dubp_lines.specs.Taking.{◌>>=◌, line_at, just, same_line, named}
use Rattle.dubp_cond.specs.ReadingLines.{input_of, unlock_line_of, output_of}
use Rattle.dubp_cond.specs.Separated.{either}
use Rattle.dubp_cond.specs.Transactions.{is_comment}
use Rattle.dubp_docs.specs.declared.doc.IdentityDoc.{IdentityDoc}
use Rattle.dubp_docs.specs.declared.doc.RevocationDoc.{RevocationDoc}
use Rattle.dubp_docs.specs.declared.doc.CertificationDoc.{CertificationDoc}
use Rattle.dubp_docs.specs.declared.doc.MembershipDoc.{MembershipDoc}
use Rattle.dubp_docs.specs.declared.doc.TxDoc.{TxDoc}
use Rattle.dubp_docs.specs.declared.doc.Doc.{Doc}
use Rattle.dubp_docs.specs.declared.doc.Doc.TheVariants.{Identity, Revocation, Certification, Membership, Transaction}

-- the next line, where it is just this
unfoldable pub just_line : List ℕ → Place → Result (List ℕ × Place) ℕ
just_line line p = line_at (just line) p

-- the value behind a name in the next line
unfoldable pub named_line : {A : Type 0} → (List ℕ → Option A) → List ℕ → Place → Result (A × Place) ℕ
named_line read name p = line_at (named name read) p

-- the signature that the next line is
unfoldable pub sig_line : Place → Result (List ℕ × Place) ℕ
sig_line p = line_at (text_if is_sig) p

-- the first three lines, of which the second is given
unfoldable pub opening_at : List ℕ → Place → Result (List ℕ × Place) ℕ
opening_at type p = do
  version ← just_line (codes "Version: 10") p
  kind ← just_line type version.1
  named_line (text_if is_currency) (codes "Currency: ") kind.1

unfoldable pub identity_at : Place → Result (IdentityDoc × Place) ℕ
identity_at p = do
  currency ← opening_at (codes "Type: Identity") p
  issuer ← named_line (text_if is_key) (codes "Issuer: ") currency.1
  unique_id ← named_line (text_if is_uid) (codes "UniqueID: ") issuer.1
  timestamp ← named_line stamp_of (codes "Timestamp: ") unique_id.1
  sig ← sig_line timestamp.1
  Ok (record { currency = currency.0; issuer = issuer.0; unique_id = unique_id.0; timestamp = timestamp.0; sig = sig.0 }, sig.1)

unfoldable pub revocation_at : Place → Result (RevocationDoc × Place) ℕ
revocation_at p = do
  currency ← opening_at (codes "Type: Revocation") p
  issuer ← named_line (text_if is_key) (codes "Issuer: ") currency.1
  unique_id ← named_line (text_if is_uid) (codes "IdtyUniqueID: ") issuer.1
  timestamp ← named_line stamp_of (codes "IdtyTimestamp: ") unique_id.1
  signature ← named_line (text_if is_sig) (codes "IdtySignature: ") timestamp.1
  sig ← sig_line signature.1
  Ok (record { currency = currency.0; issuer = issuer.0; idty_unique_id = unique_id.0; idty_timestamp = timestamp.0; idty_signature = signature.0; sig = sig.0 }, sig.1)

unfoldable pub certification_at : Place → Result (CertificationDoc × Place) ℕ
certification_at p = do
  currency ← opening_at (codes "Type: Certification") p
  issuer ← named_line (text_if is_key) (codes "Issuer: ") currency.1
  idty_issuer ← named_line (text_if is_key) (codes "IdtyIssuer: ") issuer.1
  unique_id ← named_line (text_if is_uid) (codes "IdtyUniqueID: ") idty_issuer.1
  timestamp ← named_line stamp_of (codes "IdtyTimestamp: ") unique_id.1
  signature ← named_line (text_if is_sig) (codes "IdtySignature: ") timestamp.1
  cert_timestamp ← named_line stamp_of (codes "CertTimestamp: ") signature.1
  sig ← sig_line cert_timestamp.1
  Ok (record { currency = currency.0; issuer = issuer.0; idty_issuer = idty_issuer.0; idty_unique_id = unique_id.0; idty_timestamp = timestamp.0; idty_signature = signature.0; cert_timestamp = cert_timestamp.0; sig = sig.0 }, sig.1)

-- IN or OUT
abbrev pub direction_of : List ℕ → Option Bool
direction_of text = if same_line (codes "IN") text then Some true else (if same_line (codes "OUT") text then Some false else None)

unfoldable pub membership_at : Place → Result (MembershipDoc × Place) ℕ
membership_at p = do
  currency ← opening_at (codes "Type: Membership") p
  issuer ← named_line (text_if is_key) (codes "Issuer: ") currency.1
  block ← named_line stamp_of (codes "Block: ") issuer.1
  membership ← named_line direction_of (codes "Membership: ") block.1
  user_id ← named_line (text_if is_uid) (codes "UserID: ") membership.1
  cert_ts ← named_line stamp_of (codes "CertTS: ") user_id.1
  sig ← sig_line cert_ts.1
  Ok (record { currency = currency.0; issuer = issuer.0; block = block.0; membership = membership.0; user_id = user_id.0; cert_ts = cert_ts.0; sig = sig.0 }, sig.1)

-- a value and the values behind it, or none, where the line stays
abbrev pub one_more : {A : Type 0} → Option A → List A × List (List ℕ) → List (List ℕ) → List A × List (List ℕ)
one_more None more here = ([], here)
one_more (Some x) more here = (x ∷ more.0, more.1)

-- the values of the next lines as long as they are read, at most so many, and the lines behind them
unfoldable pub values_at : {A : Type 0} → (List ℕ → Option A) → ℕ → List (List ℕ) → List A × List (List ℕ)
values_at read zero ls = ([], ls)
values_at read (suc n) [] = ([], [])
values_at read (suc n) (l ∷ ls) = one_more (read l) (values_at read n ls) (l ∷ ls)

-- no value is too few
abbrev pub some_values : {A : Type 0} → List A → List (List ℕ) → List ℕ → Result (List A × Place) ℕ
some_values [] ls tail = Err (length ls)
some_values (x ∷ xs) ls tail = Ok (x ∷ xs, (ls, tail))

-- a heading, and 1 to 100 lines behind it
unfoldable pub list_at : {A : Type 0} → (List ℕ → Option A) → List ℕ → Place → Result (List A × Place) ℕ
list_at read heading p = do
  head ← just_line heading p
  some_values (values_at read 100 head.1.0).0 (values_at read 100 head.1.0).1 head.1.1

-- just so many signatures
unfoldable pub sigs_at : ℕ → Place → Result (List (List ℕ) × Place) ℕ
sigs_at n p =
    if length (values_at (text_if is_sig) n p.0).0 == n
    then Ok ((values_at (text_if is_sig) n p.0).0, ((values_at (text_if is_sig) n p.0).1, p.1))
    else Err (length (values_at (text_if is_sig) n p.0).1)

unfoldable pub transaction_at : Place → Result (TxDoc × Place) ℕ
transaction_at p = do
  currency ← opening_at (codes "Type: Transaction") p
  stamp ← named_line stamp_of (codes "Blockstamp: ") currency.1
  locktime ← named_line number_of (codes "Locktime: ") stamp.1
  issuers ← list_at (text_if is_key) (codes "Issuers:") locktime.1
  inputs ← list_at input_of (codes "Inputs:") issuers.1
  unlocks ← list_at unlock_line_of (codes "Unlocks:") inputs.1
  outputs ← list_at output_of (codes "Outputs:") unlocks.1
  comment ← named_line (text_if is_comment) (codes "Comment: ") outputs.1
  sigs ← sigs_at (length issuers.0) comment.1
  Ok (record { currency = currency.0; tx = record { stamp = stamp.0; locktime = locktime.0; issuers = issuers.0; inputs = inputs.0; unlocks = unlocks.0; outputs = outputs.0; comment = comment.0; sigs = sigs.0 } }, sigs.1)

-- the value, where nothing stands behind it
abbrev pub last : {A : Type 0} → Result (A × Place) ℕ → Option A
last (Ok x) = if length x.1.0 + length x.1.1 == 0 then Some x.0 else None
last (Err left) = None

-- a document that is no transaction
unfoldable pub short_doc_of : Place → Option Doc
short_doc_of p =
    either (last (identity_at p)) (λ d. Some (Identity d))
    (either (last (revocation_at p)) (λ d. Some (Revocation d))
    (either (last (certification_at p)) (λ d. Some (Certification d))
    (option_map (λ d. Membership d) (last (membership_at p)))))

unfoldable pub doc_of : Place → Option Doc
doc_of p = either (short_doc_of p) (λ d. Some d) (option_map (λ d. Transaction d) (last (transaction_at p)))
