-- The reader of a block takes the lines that the table of places takes.
use Rattle.std.proofs.Common.{◌≡◌, ℕ, zero, suc, ◌==◌, Bool, true, false, cond, not, List, [], ◌∷◌, ◌++◌, append-nil, replicate, Option, Some, None, option_map, is_some, refl, sym, ap, subst, ◌∙◌}
use Rattle.std.specs.Prelude.{codes}
use Rattle.dubp_lines.specs.Taking.{line_at, named, same_line, begins_with, next_passes}
use Rattle.dubp_lines.specs.Readers.{and_then, rows}
use Rattle.dubp_lines.proofs.Readers.{Rows}
use Rattle.dubp_lines.proofs.Loops.{line_shrinks}
use Rattle.dubp_atoms.specs.Letters.{is_key, is_hash, is_sig}
use Rattle.dubp_atoms.specs.Reading.{number_of, stamp_of, text_if}
use Rattle.dubp_cond.specs.ReadingLines.{input_of, unlock_line_of, output_of}
use Rattle.dubp_params.specs.Reading.{params_of}
use Rattle.dubp_block.specs.ReadingLines.{identity_of, member_of, revoked_of, certification_of, head_of, comment_of}
use Rattle.dubp_block.specs.Reading.{opening_at, issuing_at, first_links_at, later_links_at, links_at, section_at, first_sections_at, comment_at, tx_at, transactions_at, last_sections_at, closing_at, block_at}
use Rattle.dubp_block.specs.declared.kinds.TxHead.{TxHead}
use Rattle.dubp_block.proofs.TxReads.{tx_shrinks}
use Rattle.dubp_places.specs.Places.{Spot, Section, Part, next, taken, takes, heading, within, parts_of, comment_parts, part_of, entry, in_section, inner_hash}
use Rattle.dubp_places.specs.Places.Spot.{AtVersion, AtType, AtCurrency, AtNumber, AtPowMin, AtTime, AtMedianTime, AtDividend, AtUnitBase, AtIssuer, AtFrame, AtFrameVar, AtIssuers, AtLinks, AtPreviousIssuer, AtMembers, AtHeading, InSection, InTransaction, AtInnerHash, AtNonce, AtSignature, AtEnd}
use Rattle.dubp_places.specs.Places.Section.{Identities, Joiners, Actives, Leavers, Revoked, Excluded, Certifications, Transactions}
use Rattle.dubp_places.specs.Places.Part.{StampLine, Issuer, Input, Unlock, Output, Comment, Signature}
use Rattle.dubp_places.proofs.Following.{Goes, Follows, line_goes, line_follows, goes_on, then_follows, here, same_taken, optional_follows, entries_follow}

-- ---- the header

opening_follows : Follows opening_at AtVersion (λ o. AtDividend o.number)
unfolding opening_at
opening_follows =
    then_follows _ _ _ (λ v. AtType) _ (line_follows _ AtVersion _ (λ l. refl)) (λ version.
    then_follows _ _ _ (λ t. AtCurrency) _ (line_follows _ AtType _ (λ l. refl)) (λ type.
    then_follows _ _ _ (λ c. AtNumber) _ (line_follows _ AtCurrency _ (λ l. refl)) (λ currency.
    then_follows _ _ _ (λ n. AtPowMin n) _ (line_follows _ AtNumber _ (λ l. refl)) (λ number.
    then_follows _ _ _ (λ x. AtTime number) _ (line_follows _ (AtPowMin number) _ (λ l. refl)) (λ pow_min.
    then_follows _ _ _ (λ x. AtMedianTime number) _ (line_follows _ (AtTime number) _ (λ l. refl)) (λ time.
    then_follows _ _ _ (λ x. AtDividend number) _ (line_follows _ (AtMedianTime number) _ (λ l. refl)) (λ median_time.
    here (AtDividend number))))))))

issuing_follows : (n : ℕ) → Follows issuing_at (AtDividend n) (λ i. AtLinks n)
unfolding issuing_at
issuing_follows n =
    then_follows _ _ _ (λ d. AtUnitBase n) _ (optional_follows (codes "UniversalDividend: ") number_of (AtDividend n) (AtUnitBase n) (λ l. refl)) (λ dividend.
    then_follows _ _ _ (λ x. AtIssuer n) _ (line_follows _ (AtUnitBase n) _ (λ l. refl)) (λ unit_base.
    then_follows _ _ _ (λ x. AtFrame n) _ (line_follows _ (AtIssuer n) _ (λ l. refl)) (λ issuer.
    then_follows _ _ _ (λ x. AtFrameVar n) _ (line_follows _ (AtFrame n) _ (λ l. refl)) (λ frame.
    then_follows _ _ _ (λ x. AtIssuers n) _ (line_follows _ (AtFrameVar n) _ (λ l. refl)) (λ frame_var.
    then_follows _ _ _ (λ x. AtLinks n) _ (line_follows _ (AtIssuers n) _ (λ l. refl)) (λ issuers.
    here (AtLinks n)))))))

abbrev first_link : List ℕ → Option Spot
first_link l = takes (named (codes "Parameters: ") params_of l) AtMembers

abbrev later_link : List ℕ → Option Spot
later_link l = takes (named (codes "PreviousHash: ") (text_if is_hash) l) AtPreviousIssuer

first_links_follow : (n : ℕ) → (n == 0) ≡ true → Follows first_links_at (AtLinks n) (λ x. AtMembers)
unfolding first_links_at
first_links_follow n e =
    then_follows _ _ _ (λ x. AtMembers) _ (line_follows _ (AtLinks n) _ (λ l. ap (λ b. cond b (first_link l) (later_link l)) e)) (λ params.
    here AtMembers)

later_links_follow : (n : ℕ) → (n == 0) ≡ false → Follows later_links_at (AtLinks n) (λ x. AtMembers)
unfolding later_links_at
later_links_follow n e =
    then_follows _ _ _ (λ x. AtPreviousIssuer) _ (line_follows _ (AtLinks n) _ (λ l. ap (λ b. cond b (first_link l) (later_link l)) e)) (λ hash.
    then_follows _ _ _ (λ x. AtMembers) _ (line_follows _ AtPreviousIssuer _ (λ l. refl)) (λ issuer.
    here AtMembers))

links_by : (n : ℕ) (b : Bool) → (n == 0) ≡ b → Follows (cond b first_links_at later_links_at) (AtLinks n) (λ x. AtMembers)
links_by n true e = first_links_follow n e
links_by n false e = later_links_follow n e

links_follow : (n : ℕ) → Follows (links_at n) (AtLinks n) (λ x. AtMembers)
links_follow n = links_by n (n == 0) refl

-- ---- sections of lines

module _ {A : Type 0} (s behind : Section) (read : List ℕ → Option A) (same : (l : List ℕ) → in_section s l ≡ cond (same_line (heading behind) l) (Some (InSection behind)) (takes (read l) (InSection s))) where
  just_takes : (l : List ℕ) (b : Bool) → same_line (heading behind) l ≡ b → b ≡ true → next (AtHeading behind) l ≡ Some (InSection behind)
  just_takes l true e is = ap (λ b. option_map (λ a. InSection behind) (cond b (Some l) None)) e
  just_takes l false e is = absurd cc

  stopped : (ls : Rows) → next_passes (same_line (heading behind)) ls ≡ true → taken (InSection s) ls ≡ taken (AtHeading behind) ls
  stopped [] e = absurd cc
  stopped (l ∷ ls) e =
      same_taken (InSection s) (AtHeading behind) l ls
      (same l ∙ ap (λ b. cond b (Some (InSection behind)) (takes (read l) (InSection s))) e ∙ sym (just_takes l (same_line (heading behind) l) refl e))

  enters : (ls : Rows) (t : List ℕ) → next_passes (same_line (heading behind)) ls ≡ false → Goes (line_at read (ls, t)) ls (InSection s) (λ x. InSection s)
  enters [] t e = refl
  enters (l ∷ ls) t e =
      line_goes read (InSection s) (λ x. InSection s) l ls t (same l ∙ ap (λ b. cond b (Some (InSection behind)) (takes (read l) (InSection s))) e)

  pub section_follows : Follows (section_at (heading s) (heading behind) read) (AtHeading s) (λ xs. AtHeading behind)
  unfolding section_at
  section_follows =
      then_follows _ _ _ (λ x. InSection s) _ (line_follows _ (AtHeading s) _ (λ l. refl)) (λ line.
      entries_follow (next_passes (same_line (heading behind))) (line_at read) (InSection s) (AtHeading behind) (line_shrinks read) stopped enters)

first_sections_follow : Follows first_sections_at (AtHeading Identities) (λ x. AtHeading Revoked)
unfolding first_sections_at
first_sections_follow =
    then_follows _ _ _ (λ x. AtHeading Joiners) _ (section_follows Identities Joiners identity_of (λ l. refl)) (λ identities.
    then_follows _ _ _ (λ x. AtHeading Actives) _ (section_follows Joiners Actives member_of (λ l. refl)) (λ joiners.
    then_follows _ _ _ (λ x. AtHeading Leavers) _ (section_follows Actives Leavers member_of (λ l. refl)) (λ actives.
    then_follows _ _ _ (λ x. AtHeading Revoked) _ (section_follows Leavers Revoked member_of (λ l. refl)) (λ leavers.
    here (AtHeading Revoked)))))

-- ---- transactions

some_takes : {A : Type 0} (o : Option A) (s : Spot) → cond (is_some o) (Some s) None ≡ option_map (λ a. s) o
some_takes (Some a) s = refl
some_takes None s = refl

abbrev TakesPart : {A : Type 0} → Part → (List ℕ → Option A) → Type 0
TakesPart part read = (l : List ℕ) (parts : List Part) → part_of part l (Some (within parts)) ≡ option_map (λ x. within parts) (read l)

part_follows : {A : Type 0} (part : Part) (read : List ℕ → Option A) (parts : List Part) → TakesPart part read → Follows (line_at read) (InTransaction part parts) (λ x. within parts)
part_follows part read parts same = line_follows read (InTransaction part parts) (λ x. within parts) (λ l. same l parts)

rows_follow : {A : Type 0} (part : Part) (read : List ℕ → Option A) (n : ℕ) (parts : List Part) → TakesPart part read → Follows (rows n read) (within (replicate n part ++ parts)) (λ xs. within parts)
rows_follow part read zero parts same = here (within parts)
rows_follow part read (suc n) parts same =
    then_follows _ _ _ (λ x. within (replicate n part ++ parts)) _ (part_follows part read (replicate n part ++ parts) same) (λ x.
    then_follows _ _ _ (λ xs. within parts) _ (rows_follow part read n parts same) (λ xs.
    here (within parts)))

comment_follows : (n : ℕ) (parts : List Part) → Follows (comment_at n) (within (comment_parts n ++ parts)) (λ c. within parts)
comment_follows zero parts = here (within parts)
comment_follows (suc n) parts = part_follows Comment comment_of parts (λ l ps. some_takes (comment_of l) (within ps))

sigs_follow : (n : ℕ) → Follows (rows n (text_if is_sig)) (within (replicate n Signature)) (λ xs. InSection Transactions)
sigs_follow n =
    subst (λ (parts : List Part). Follows (rows n (text_if is_sig)) (within parts) (λ xs. InSection Transactions)) (append-nil (replicate n Signature))
    (rows_follow Signature (text_if is_sig) n [] (λ l ps. some_takes (text_if is_sig l) (within ps)))

abbrev behind_inputs : TxHead → List Part
behind_inputs h = replicate h.unlocks Unlock ++ (replicate h.outputs Output ++ (comment_parts h.comments ++ replicate h.issuers Signature))

abbrev begins_tx : Rows → Bool
begins_tx ls = next_passes (begins_with (codes "TX:")) ls

entry_takes : (l : List ℕ) → begins_with (codes "TX:") l ≡ true → next (InSection Transactions) l ≡ option_map (λ h. within (parts_of h)) (named (codes "TX:10:") head_of l)
entry_takes l e = ap (λ b. cond b (entry Transactions l) (inner_hash l)) e

tx_enters : (ls : Rows) (t : List ℕ) → not (begins_tx ls) ≡ false → Goes (tx_at (ls, t)) ls (InSection Transactions) (λ x. InSection Transactions)
unfolding tx_at and_then
tx_enters [] t e = absurd cc
tx_enters (l ∷ ls) t e =
    goes_on _ _ (l ∷ ls) (InSection Transactions) (λ h. within (parts_of h)) (λ x. InSection Transactions)
    (line_goes (named (codes "TX:10:") head_of) (InSection Transactions) (λ h. within (parts_of h)) l ls t (entry_takes l (not_not (begins_with (codes "TX:") l) e)))
    (λ h.
    then_follows _ _ _ (λ x. within (replicate h.issuers Issuer ++ (replicate h.inputs Input ++ behind_inputs h))) _ (part_follows StampLine stamp_of _ (λ l ps. some_takes (stamp_of l) (within ps))) (λ stamp.
    then_follows _ _ _ (λ x. within (replicate h.inputs Input ++ behind_inputs h)) _ (rows_follow Issuer (text_if is_key) h.issuers _ (λ l ps. some_takes (text_if is_key l) (within ps))) (λ issuers.
    then_follows _ _ _ (λ x. within (behind_inputs h)) _ (rows_follow Input input_of h.inputs _ (λ l ps. some_takes (input_of l) (within ps))) (λ inputs.
    then_follows _ _ _ (λ x. within (replicate h.outputs Output ++ (comment_parts h.comments ++ replicate h.issuers Signature))) _ (rows_follow Unlock unlock_line_of h.unlocks _ (λ l ps. some_takes (unlock_line_of l) (within ps))) (λ unlocks.
    then_follows _ _ _ (λ x. within (comment_parts h.comments ++ replicate h.issuers Signature)) _ (rows_follow Output output_of h.outputs _ (λ l ps. some_takes (output_of l) (within ps))) (λ outputs.
    then_follows _ _ _ (λ x. within (replicate h.issuers Signature)) _ (comment_follows h.comments _) (λ comment.
    then_follows _ _ _ (λ x. InSection Transactions) _ (sigs_follow h.issuers) (λ sigs.
    here (InSection Transactions)))))))))
  where
    not_not : (b : Bool) → not b ≡ false → b ≡ true
    not_not true e = refl
    not_not false e = absurd cc

tx_stopped : (ls : Rows) → not (begins_tx ls) ≡ true → taken (InSection Transactions) ls ≡ taken AtInnerHash ls
tx_stopped [] e = refl
tx_stopped (l ∷ ls) e = same_taken (InSection Transactions) AtInnerHash l ls (ap (λ b. cond b (entry Transactions l) (inner_hash l)) (is_not (begins_with (codes "TX:") l) e))
  where
    is_not : (b : Bool) → not b ≡ true → b ≡ false
    is_not true e = absurd cc
    is_not false e = refl

transactions_follow : Follows transactions_at (AtHeading Transactions) (λ x. AtInnerHash)
unfolding transactions_at
transactions_follow =
    then_follows _ _ _ (λ x. InSection Transactions) _ (line_follows _ (AtHeading Transactions) _ (λ l. refl)) (λ line.
    entries_follow (λ ls. not (begins_tx ls)) tx_at (InSection Transactions) AtInnerHash tx_shrinks tx_stopped tx_enters)

last_sections_follow : Follows last_sections_at (AtHeading Revoked) (λ x. AtInnerHash)
unfolding last_sections_at
last_sections_follow =
    then_follows _ _ _ (λ x. AtHeading Excluded) _ (section_follows Revoked Excluded revoked_of (λ l. refl)) (λ revoked.
    then_follows _ _ _ (λ x. AtHeading Certifications) _ (section_follows Excluded Certifications (text_if is_key) (λ l. refl)) (λ excluded.
    then_follows _ _ _ (λ x. AtHeading Transactions) _ (section_follows Certifications Transactions certification_of (λ l. refl)) (λ certifications.
    then_follows _ _ _ (λ x. AtInnerHash) _ transactions_follow (λ transactions.
    here AtInnerHash))))

-- ---- the block

closing_follows : Follows closing_at AtInnerHash (λ x. AtEnd)
unfolding closing_at
closing_follows =
    then_follows _ _ _ (λ x. AtNonce) _ (line_follows _ AtInnerHash _ (λ l. refl)) (λ inner_hash.
    then_follows _ _ _ (λ x. AtSignature) _ (line_follows _ AtNonce _ (λ l. refl)) (λ nonce.
    then_follows _ _ _ (λ x. AtEnd) _ (line_follows _ AtSignature _ (λ l. refl)) (λ sig.
    here AtEnd)))

pub block_follows : Follows block_at AtVersion (λ b. AtEnd)
unfolding block_at
block_follows =
    then_follows _ _ _ (λ o. AtDividend o.number) _ opening_follows (λ opening.
    then_follows _ _ _ (λ x. AtLinks opening.number) _ (issuing_follows opening.number) (λ issuing.
    then_follows _ _ _ (λ x. AtMembers) _ (links_follow opening.number) (λ links.
    then_follows _ _ _ (λ x. AtHeading Identities) _ (line_follows _ AtMembers _ (λ l. refl)) (λ members.
    then_follows _ _ _ (λ x. AtHeading Revoked) _ first_sections_follow (λ first.
    then_follows _ _ _ (λ x. AtInnerHash) _ last_sections_follow (λ last.
    then_follows _ _ _ (λ x. AtEnd) _ closing_follows (λ closing.
    here AtEnd)))))))
