-- What is read as the document of a transaction is its one text.
use Rattle.std.proofs.Common.{◌≡◌, ℕ, ◌==◌, not, arith, List, [], ◌∷◌, ◌++◌, length, map, codes, None, Ok, refl, sym, ap, subst, ◌∙◌, append_assoc, decimal}
use Rattle.std.proofs.lemmas.List.{map-id}
use Rattle.dubp_atoms.specs.Letters.{is_key, COLON}
use Rattle.dubp_atoms.specs.Reading.{Lacks, text_if, number_of, stamp_of}
use Rattle.dubp_atoms.specs.Spelling.{stamp_text, IsNumber}
use Rattle.dubp_atoms.proofs.Fields.{Lacks-all, field_stops}
use Rattle.dubp_atoms.proofs.Numbers.{number_found, number_again}
use Rattle.dubp_lines.specs.Lines.{Place}
use Rattle.dubp_lines.specs.Takes.{Spans}
use Rattle.dubp_lines.proofs.Taken.{bind_ok, ok_is}
use Rattle.dubp_cond.specs.Sources.{input_text, IsInput}
use Rattle.dubp_cond.specs.Unlocks.{unlock_line_text, IsUnlockLine}
use Rattle.dubp_cond.specs.Outputs.{output_text, IsOutput}
use Rattle.dubp_cond.specs.Transactions.{is_comment}
use Rattle.dubp_cond.specs.ReadingLines.{input_of, unlock_line_of, output_of}
use Rattle.dubp_cond.proofs.Sources.{input_found, input_again}
use Rattle.dubp_cond.proofs.Unlocks.{unlock_line_found, unlock_line_again}
use Rattle.dubp_cond.proofs.Outputs.{output_found, output_again}
use Rattle.dubp_docs.specs.Spelling.{transaction_lines, IsTxDoc}
use Rattle.dubp_docs.specs.Reading.{named_line, opening_at, list_at, sigs_at, transaction_at}
use Rattle.dubp_docs.specs.declared.doc.TxDoc.{TxDoc}
use Rattle.dubp_docs.proofs.OneLine.{Rows, IsRead, text_is, itself, then_lines, named_took, named_takes, opening_took, opening_takes}
use Rattle.dubp_docs.proofs.ManyLines.{list_found, list_again, sigs_found, sigs_again}
use Rattle.dubp_docs.proofs.ShortDocs.{stamp_is}

number_is : IsRead number_of decimal IsNumber
number_is = record { found = number_found; again = number_again }

input_is : IsRead input_of input_text IsInput
input_is = record { found = input_found; again = input_again }

unlock_is : IsRead unlock_line_of unlock_line_text IsUnlockLine
unlock_is = record { found = unlock_line_found; again = unlock_line_again }

output_is : IsRead output_of output_text IsOutput
output_is = record { found = output_found; again = output_again }

-- ---- what is read is its text

module _ (p : Place) (d : TxDoc) (q : Place) where
  pub transaction_found : transaction_at p ≡ Ok (d, q) → IsTxDoc d × Spans p (transaction_lines d.currency d.tx ++ d.tx.sigs) q
  unfolding transaction_at
  transaction_found h =
      let y : TxDoc × Place = (d, q) in
      let a = bind_ok (opening_at (codes "Type: Transaction") p) _ y h in
      let b = bind_ok (named_line stamp_of (codes "Blockstamp: ") a.0.1) _ y a.2 in
      let c = bind_ok (named_line number_of (codes "Locktime: ") b.0.1) _ y b.2 in
      let e = bind_ok (list_at (text_if is_key) (codes "Issuers:") c.0.1) _ y c.2 in
      let f = bind_ok (list_at input_of (codes "Inputs:") e.0.1) _ y e.2 in
      let g = bind_ok (list_at unlock_line_of (codes "Unlocks:") f.0.1) _ y f.2 in
      let i = bind_ok (list_at output_of (codes "Outputs:") g.0.1) _ y g.2 in
      let j = bind_ok (named_line (text_if is_comment) (codes "Comment: ") i.0.1) _ y i.2 in
      let s = bind_ok (sigs_at (length e.0.0) j.0.1) _ y j.2 in
      let a' = opening_took (codes "Type: Transaction") p a.0.0 a.0.1 a.1 in
      let b' = named_took stamp_is (codes "Blockstamp: ") a.0.1 b.0.0 b.0.1 b.1 in
      let c' = named_took number_is (codes "Locktime: ") b.0.1 c.0.0 c.0.1 c.1 in
      let e' = list_found (text_is is_key) (codes "Issuers:") c.0.1 e.0.0 e.0.1 e.1 in
      let f' = list_found input_is (codes "Inputs:") e.0.1 f.0.0 f.0.1 f.1 in
      let g' = list_found unlock_is (codes "Unlocks:") f.0.1 g.0.0 g.0.1 g.1 in
      let i' = list_found output_is (codes "Outputs:") g.0.1 i.0.0 i.0.1 i.1 in
      let j' = named_took (text_is is_comment) (codes "Comment: ") i.0.1 j.0.0 j.0.1 j.1 in
      let s' = sigs_found (length e.0.0) j.0.1 s.0.0 s.0.1 s.1 in
      let issuers : Spans c.0.1 (codes "Issuers:" ∷ e.0.0) e.0.1 = subst (λ keys. Spans c.0.1 (codes "Issuers:" ∷ keys) e.0.1) (map-id e.0.0) e'.1 in
      let head = then_lines a'.1 (then_lines b'.1 (then_lines c'.1 issuers)) in
      let made : TxDoc × Place =
      (record { currency = a.0.0; tx = record { stamp = b.0.0; locktime = c.0.0; issuers = e.0.0; inputs = f.0.0; unlocks = g.0.0; outputs = i.0.0; comment = j.0.0; sigs = s.0.0 } }, s.0.1) in
      subst (λ (z : TxDoc × Place). IsTxDoc z.0 × Spans p (transaction_lines z.0.currency z.0.tx ++ z.0.tx.sigs) z.1) (ok_is made y s.2) (
        record {
          currency = a'.0;
          tx = record { stamp = b'.0; locktime = c'.0; issuers = e'.0; inputs = f'.0; unlocks = g'.0; outputs = i'.0; comment = j'.0; sigs = s'.0; signed = s'.1 };
        },
        then_lines (then_lines (then_lines (then_lines (then_lines head f'.1) g'.1) i'.1) j'.1) s'.2,
      )

-- ---- its text is read

-- a heading is no line of the list before it
inputs_no_key : text_if is_key (codes "Inputs:") ≡ None
unfolding is_key
inputs_no_key = refl

unlocks_no_input : input_of (codes "Unlocks:") ≡ None
unfolding input_of number_of
unlocks_no_input = refl

outputs_no_unlock : unlock_line_of (codes "Outputs:") ≡ None
unfolding unlock_line_of number_of
outputs_no_unlock = refl

no_colon : Lacks COLON (codes "Comment")
no_colon = Lacks-all COLON (λ c. not (c == COLON)) (codes "Comment") (omega arith) refl refl

no_number : number_of (codes "Comment") ≡ None
unfolding number_of
no_number = refl

comment_no_output : (comment : List ℕ) → output_of (codes "Comment: " ++ comment) ≡ None
unfolding output_of
comment_no_output comment = field_stops COLON number_of (codes "Comment") (codes " " ++ comment) _ no_colon no_number

regroup : (h a b c s : Rows) (k : List ℕ) → ((((h ++ a) ++ b) ++ c) ++ k ∷ []) ++ s ≡ h ++ (a ++ (b ++ (c ++ k ∷ s)))
regroup h a b c s k =
    append_assoc (((h ++ a) ++ b) ++ c) (k ∷ []) s ∙ append_assoc ((h ++ a) ++ b) c (k ∷ s) ∙ append_assoc (h ++ a) b (c ++ k ∷ s) ∙ append_assoc h a (b ++ (c ++ k ∷ s))

pub transaction_again : (d : TxDoc) → IsTxDoc d → transaction_at (transaction_lines d.currency d.tx ++ d.tx.sigs, []) ≡ Ok (d, ([], []))
unfolding transaction_at
transaction_again d is =
    let tx = d.tx in
    let comment = codes "Comment: " ++ tx.comment in
    let outputs = map output_text tx.outputs ++ comment ∷ tx.sigs in
    let unlocks = map unlock_line_text tx.unlocks ++ codes "Outputs:" ∷ outputs in
    let inputs = map input_text tx.inputs ++ codes "Unlocks:" ∷ unlocks in
    let issuers = map itself tx.issuers ++ codes "Inputs:" ∷ inputs in
    let locktime = codes "Locktime: " ++ decimal tx.locktime in
    let stamp = codes "Blockstamp: " ++ stamp_text tx.stamp in
    let head : Rows → Rows = λ keys. codes "Version: 10" ∷ codes "Type: Transaction" ∷ (codes "Currency: " ++ d.currency) ∷ stamp ∷ locktime ∷ codes "Issuers:" ∷ keys in
    let lines : transaction_lines d.currency tx ++ tx.sigs ≡ head issuers =
    regroup (head tx.issuers) (codes "Inputs:" ∷ map input_text tx.inputs) (codes "Unlocks:" ∷ map unlock_line_text tx.unlocks) (codes "Outputs:" ∷ map output_text tx.outputs) tx.sigs comment
    ∙ ap (λ keys. head (keys ++ codes "Inputs:" ∷ inputs)) (sym (map-id tx.issuers)) in
    let placed : Rows → Place = λ v. (v, []) in
    ap (λ v. transaction_at (placed v)) lines
    ∙ rw (
      opening_takes (codes "Type: Transaction") d.currency (stamp ∷ locktime ∷ codes "Issuers:" ∷ issuers) [] is.currency,
      named_takes stamp_is (codes "Blockstamp: ") tx.stamp (locktime ∷ codes "Issuers:" ∷ issuers) [] is.tx.stamp,
      named_takes number_is (codes "Locktime: ") tx.locktime (codes "Issuers:" ∷ issuers) [] is.tx.locktime,
      list_again (text_is is_key) (codes "Issuers:") tx.issuers (codes "Inputs:") inputs [] is.tx.issuers inputs_no_key,
      list_again input_is (codes "Inputs:") tx.inputs (codes "Unlocks:") unlocks [] is.tx.inputs unlocks_no_input,
      list_again unlock_is (codes "Unlocks:") tx.unlocks (codes "Outputs:") outputs [] is.tx.unlocks outputs_no_unlock,
      list_again output_is (codes "Outputs:") tx.outputs comment tx.sigs [] is.tx.outputs (comment_no_output tx.comment),
      named_takes (text_is is_comment) (codes "Comment: ") tx.comment tx.sigs [] is.tx.comment,
      sigs_again (length tx.issuers) tx.sigs [] is.tx.sigs is.tx.signed,
    ) refl
