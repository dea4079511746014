-- No line of a document has a line end in it, so that its lines can be cut at LF.
use Rattle.std.proofs.Common.{◌≡◌, ℕ, Bool, true, false, List, [], ◌∷◌, ◌++◌, codes, map, refl, decimal}
use Rattle.std.specs.Prelude.{nat_lt, ◌||◌}
use Rattle.std.specs.List.{list_all, AllByRecursion}
use Rattle.std.proofs.lemmas.List.Elements.{recursion_from_All}
use Rattle.dubp_atoms.specs.Letters.{LF, is_key, is_sig, is_currency}
use Rattle.dubp_atoms.specs.Reading.{Lacks}
use Rattle.dubp_atoms.specs.Spelling.{stamp_text}
use Rattle.dubp_atoms.proofs.Fields.{Lacks-append}
use Rattle.dubp_atoms.proofs.Stamps.{line_end, number_lacks, key_lacks, uid_lacks, currency_lacks, stamp_lacks, sig_lacks}
use Rattle.dubp_lines.proofs.Taken.{codes_lack}
use Rattle.dubp_lines.proofs.Readers.{all_append}
use Rattle.dubp_cond.specs.Sources.{input_text, IsInput}
use Rattle.dubp_cond.specs.Unlocks.{unlock_line_text, IsUnlockLine}
use Rattle.dubp_cond.specs.Outputs.{output_text, IsOutput}
use Rattle.dubp_cond.proofs.LineEnds.{input_lacks, output_lacks, unlock_line_lacks, comment_lacks}
use Rattle.dubp_docs.specs.Spelling.{direction_text, signed_lines, signature_lines, IsDoc}
use Rattle.dubp_docs.specs.declared.doc.Doc.{Doc}
use Rattle.dubp_docs.specs.declared.doc.Doc.TheVariants.{Identity, Revocation, Certification, Membership, Transaction}

abbrev Clear : List ℕ → Type 0
Clear line = Lacks LF line

abbrev AllClear : List (List ℕ) → Type 0
AllClear lines = AllByRecursion Clear lines

abbrev is_other : ℕ → Bool
is_other c = nat_lt c LF || nat_lt LF c

-- a name, by a test that computes, and what stands behind it
named : (name value : List ℕ) → list_all is_other name ≡ true → Clear value → Clear (name ++ value)
named name value h v = Lacks-append LF name value (codes_lack name h) v

module _ {A : Type 0} (spell : A → List ℕ) (Good : A → Type 0) (clear : (x : A) → Good x → Clear (spell x)) where
  each : (xs : List A) → AllByRecursion Good xs → AllClear (map spell xs)
  each [] good = tt
  each (x ∷ xs) good = (clear x good.0, each xs good.1)

abbrev IsKey : List ℕ → Type 0
IsKey key = is_key key ≡ true

abbrev IsSig : List ℕ → Type 0
IsSig sig = is_sig sig ≡ true

module _ (Good : List ℕ → Type 0) (clear : (x : List ℕ) → Good x → Clear x) where
  each_text : (xs : List (List ℕ)) → AllByRecursion Good xs → AllClear xs
  each_text [] good = tt
  each_text (x ∷ xs) good = (clear x good.0, each_text xs good.1)

key : (text : List ℕ) → is_key text ≡ true → Clear text
key = key_lacks LF line_end

sig : (text : List ℕ) → is_sig text ≡ true → Clear text
sig = sig_lacks LF line_end

opening : (type currency : List ℕ) → list_all is_other type ≡ true → is_currency currency ≡ true → AllClear (codes "Version: 10" ∷ type ∷ (codes "Currency: " ++ currency) ∷ [])
opening type currency h c = (codes_lack (codes "Version: 10") refl, (codes_lack type h, (named (codes "Currency: ") currency refl (currency_lacks LF line_end currency c), tt)))

direction : (b : Bool) → Clear (direction_text b)
direction true = codes_lack (codes "IN") refl
direction false = codes_lack (codes "OUT") refl

pub doc_clear : (d : Doc) → IsDoc d → AllClear (signed_lines d ++ signature_lines d)
doc_clear (Identity d) is =
    let o = opening (codes "Type: Identity") d.currency refl is.currency in (
      o.0,
      (
        o.1.0,
        (
          o.1.1.0,
          (
            named (codes "Issuer: ") d.issuer refl (key d.issuer is.issuer),
            (
              named (codes "UniqueID: ") d.unique_id refl (uid_lacks LF line_end d.unique_id is.unique_id),
              (
                named (codes "Timestamp: ") (stamp_text d.timestamp) refl (stamp_lacks LF line_end d.timestamp is.timestamp),
                (sig d.sig is.sig, tt),
              ),
            ),
          ),
        ),
      ),
    )
doc_clear (Revocation d) is =
    let o = opening (codes "Type: Revocation") d.currency refl is.currency in (
      o.0,
      (
        o.1.0,
        (
          o.1.1.0,
          (
            named (codes "Issuer: ") d.issuer refl (key d.issuer is.issuer),
            (
              named (codes "IdtyUniqueID: ") d.idty_unique_id refl (uid_lacks LF line_end d.idty_unique_id is.idty_unique_id),
              (
                named (codes "IdtyTimestamp: ") (stamp_text d.idty_timestamp) refl (stamp_lacks LF line_end d.idty_timestamp is.idty_timestamp),
                (
                  named (codes "IdtySignature: ") d.idty_signature refl (sig d.idty_signature is.idty_signature),
                  (sig d.sig is.sig, tt),
                ),
              ),
            ),
          ),
        ),
      ),
    )
doc_clear (Certification d) is =
    let o = opening (codes "Type: Certification") d.currency refl is.currency in (
      o.0,
      (
        o.1.0,
        (
          o.1.1.0,
          (
            named (codes "Issuer: ") d.issuer refl (key d.issuer is.issuer),
            (
              named (codes "IdtyIssuer: ") d.idty_issuer refl (key d.idty_issuer is.idty_issuer),
              (
                named (codes "IdtyUniqueID: ") d.idty_unique_id refl (uid_lacks LF line_end d.idty_unique_id is.idty_unique_id),
                (
                  named (codes "IdtyTimestamp: ") (stamp_text d.idty_timestamp) refl (stamp_lacks LF line_end d.idty_timestamp is.idty_timestamp),
                  (
                    named (codes "IdtySignature: ") d.idty_signature refl (sig d.idty_signature is.idty_signature),
                    (
                      named (codes "CertTimestamp: ") (stamp_text d.cert_timestamp) refl (stamp_lacks LF line_end d.cert_timestamp is.cert_timestamp),
                      (sig d.sig is.sig, tt),
                    ),
                  ),
                ),
              ),
            ),
          ),
        ),
      ),
    )
doc_clear (Membership d) is =
    let o = opening (codes "Type: Membership") d.currency refl is.currency in (
      o.0,
      (
        o.1.0,
        (
          o.1.1.0,
          (
            named (codes "Issuer: ") d.issuer refl (key d.issuer is.issuer),
            (
              named (codes "Block: ") (stamp_text d.block) refl (stamp_lacks LF line_end d.block is.block),
              (
                named (codes "Membership: ") (direction_text d.membership) refl (direction d.membership),
                (
                  named (codes "UserID: ") d.user_id refl (uid_lacks LF line_end d.user_id is.user_id),
                  (
                    named (codes "CertTS: ") (stamp_text d.cert_ts) refl (stamp_lacks LF line_end d.cert_ts is.cert_ts),
                    (sig d.sig is.sig, tt),
                  ),
                ),
              ),
            ),
          ),
        ),
      ),
    )
doc_clear (Transaction d) is =
    let tx = d.tx in
    let o = opening (codes "Type: Transaction") d.currency refl is.currency in
    let stamp = named (codes "Blockstamp: ") (stamp_text tx.stamp) refl (stamp_lacks LF line_end tx.stamp is.tx.stamp) in
    let locktime = named (codes "Locktime: ") (decimal tx.locktime) refl (number_lacks LF line_end tx.locktime is.tx.locktime) in
    let keys = each_text IsKey key tx.issuers (recursion_from_All IsKey tx.issuers is.tx.issuers.each) in
    let head = (codes "Version: 10" ∷ codes "Type: Transaction" ∷ (codes "Currency: " ++ d.currency) ∷ (codes "Blockstamp: " ++ stamp_text tx.stamp) ∷ (codes "Locktime: " ++ decimal tx.locktime) ∷ codes "Issuers:" ∷ tx.issuers) in
    let head_clear : AllClear head = (o.0, (o.1.0, (o.1.1.0, (stamp, (locktime, (codes_lack (codes "Issuers:") refl, keys)))))) in
    let inputs = codes "Inputs:" ∷ map input_text tx.inputs in
    let inputs_clear : AllClear inputs = (codes_lack (codes "Inputs:") refl, each input_text IsInput input_lacks tx.inputs (recursion_from_All IsInput tx.inputs is.tx.inputs.each)) in
    let unlocks = codes "Unlocks:" ∷ map unlock_line_text tx.unlocks in
    let unlocks_clear : AllClear unlocks =
    (codes_lack (codes "Unlocks:") refl, each unlock_line_text IsUnlockLine unlock_line_lacks tx.unlocks (recursion_from_All IsUnlockLine tx.unlocks is.tx.unlocks.each)) in
    let outputs = codes "Outputs:" ∷ map output_text tx.outputs in
    let outputs_clear : AllClear outputs = (codes_lack (codes "Outputs:") refl, each output_text IsOutput output_lacks tx.outputs (recursion_from_All IsOutput tx.outputs is.tx.outputs.each)) in
    let comment = (codes "Comment: " ++ tx.comment) ∷ [] in
    let comment_clear : AllClear comment = (named (codes "Comment: ") tx.comment refl (comment_lacks tx.comment is.tx.comment), tt) in
    all_append Clear ((((head ++ inputs) ++ unlocks) ++ outputs) ++ comment) tx.sigs
    (all_append Clear (((head ++ inputs) ++ unlocks) ++ outputs) comment
    (all_append Clear ((head ++ inputs) ++ unlocks) outputs
    (all_append Clear (head ++ inputs) unlocks (all_append Clear head inputs head_clear inputs_clear) unlocks_clear) outputs_clear) comment_clear)
    (each_text IsSig sig tx.sigs (recursion_from_All IsSig tx.sigs is.tx.sigs))
