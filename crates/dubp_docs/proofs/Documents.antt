-- What is read as a document is its one text.
use Rattle.std.proofs.Common.{◌≡◌, ℕ, ◌+◌, inl, inr, false, List, [], ◌∷◌, ◌++◌, length, codes, Option, Some, None, Result, Ok, Err, refl, ap, subst, ◌∙◌, eqb, append-nil}
use Rattle.std.proofs.lemmas.Bool.{eqb-true}
use Rattle.dubp_atoms.proofs.Numbers.{by_test, some_is}
use Rattle.dubp_lines.specs.Lines.{Place, split}
use Rattle.dubp_lines.specs.Takes.{Spans}
use Rattle.dubp_lines.specs.Taking.{same_line}
use Rattle.dubp_lines.proofs.Split.{split_unlines}
use Rattle.dubp_lines.proofs.Taken.{text_of_lines, nothing_left}
use Rattle.dubp_cond.proofs.Readers.{either_some, map_some}
use Rattle.dubp_docs.specs.Spelling.{signed_lines, signature_lines, doc_text, IsDoc}
use Rattle.dubp_docs.specs.Reading.{identity_at, revocation_at, certification_at, membership_at, transaction_at, last, short_doc_of, doc_of}
use Rattle.dubp_docs.specs.declared.doc.Doc.{Doc}
use Rattle.dubp_docs.specs.declared.doc.Doc.TheVariants.{Identity, Revocation, Certification, Membership, Transaction}
use Rattle.dubp_docs.proofs.OneLine.{Rows, opening_refuses}
use Rattle.dubp_docs.proofs.ShortDocs.{identity_found, identity_again, revocation_found, revocation_again, certification_found, certification_again, membership_found, membership_again}
use Rattle.dubp_docs.proofs.WholeTx.{transaction_found, transaction_again}
use Rattle.dubp_docs.proofs.LineEnds.{doc_clear}

abbrev pub doc_of_text : List ℕ → Option Doc
doc_of_text text = doc_of (split text)

abbrev all_lines : Doc → Rows
all_lines d = signed_lines d ++ signature_lines d

-- ---- what is read is its text

-- the place has just the lines of the document
record Has (p : Place) (d : Doc) : Type 0 where
  is : IsDoc d
  lines : p.0 ≡ all_lines d
  tail : p.1 ≡ []

-- a value was taken, and nothing stands behind it
record Last {A : Type 0} (r : Result (A × Place) ℕ) (x : A) : Type 0 where
  place : Place
  took : r ≡ Ok (x, place)
  lines : place.0 ≡ []
  tail : place.1 ≡ []

last_is : {A : Type 0} (r : Result (A × Place) ℕ) (x : A) → last r ≡ Some x → Last r x
last_is (Err n) x h = absurd cc
last_is {A} (Ok y) x h =
    let t = by_test (eqb (length y.1.0 + length y.1.1) 0) (Some y.0) x h in
    let nothing = nothing_left y.1 (eqb-true _ 0 t.0) in
    let with_value : A → Result (A × Place) ℕ = λ v. Ok (v, y.1) in
    record { place = y.1; took = ap with_value (some_is y.0 x t.1); lines = nothing.0; tail = nothing.1 }

has : (p : Place) (d : Doc) (q : Place) → IsDoc d → Spans p (all_lines d) q → q.0 ≡ [] → q.1 ≡ [] → Has p d
has p d q is s a b = record { is = is; lines = s.lines ∙ ap (λ v. all_lines d ++ v) a ∙ append-nil (all_lines d); tail = s.tail ∙ b }

module _ {A : Type 0} (read : Place → Result (A × Place) ℕ) (make : A → Doc) (found : (p : Place) (x : A) (q : Place) → read p ≡ Ok (x, q) → IsDoc (make x) × Spans p (all_lines (make x)) q) where
  has_of : (p : Place) (x : A) (d : Doc) → last (read p) ≡ Some x → make x ≡ d → Has p d
  has_of p x d h e =
      let l = last_is (read p) x h in
      let f = found p x l.place l.took in
      subst (Has p) e (has p (make x) l.place f.0 f.1 l.lines l.tail)

short_found : (p : Place) (d : Doc) → short_doc_of p ≡ Some d → Has p d
unfolding short_doc_of
short_found p d h = elim (either_some (last (identity_at p)) _ _ d h) [
  | inl a ↦ has_of identity_at Identity identity_found p a.0 d a.1 (some_is (Identity a.0) d a.2)
  | inr h ↦
      elim (either_some (last (revocation_at p)) _ _ d h) [
        | inl a ↦ has_of revocation_at Revocation revocation_found p a.0 d a.1 (some_is (Revocation a.0) d a.2)
        | inr h ↦
            elim (either_some (last (certification_at p)) _ _ d h) [
              | inl a ↦ has_of certification_at Certification certification_found p a.0 d a.1 (some_is (Certification a.0) d a.2)
              | inr h ↦
                  let m = map_some Membership (last (membership_at p)) d h in
                  has_of membership_at Membership membership_found p m.0 d m.1 m.2
            ]
      ]
]

place_found : (p : Place) (d : Doc) → doc_of p ≡ Some d → Has p d
unfolding doc_of
place_found p d h = elim (either_some (short_doc_of p) _ _ d h) [
  | inl a ↦ subst (Has p) (some_is a.0 d a.2) (short_found p a.0 a.1)
  | inr h ↦
      let m = map_some Transaction (last (transaction_at p)) d h in
      has_of transaction_at Transaction transaction_found p m.0 d m.1 m.2
]

pub doc_found : (text : List ℕ) (d : Doc) → doc_of_text text ≡ Some d → IsDoc d × (text ≡ doc_text d)
unfolding doc_text
doc_found text d h =
    let f = place_found (split text) d h in
    (f.is, text_of_lines text (all_lines d) f.lines f.tail)

-- ---- its text is read

module _ (l : List ℕ) (ls : Rows) where
  abbrev here : Place
  here = (codes "Version: 10" ∷ l ∷ ls, [])

  no_identity : same_line (codes "Type: Identity") l ≡ false → last (identity_at here) ≡ None
  unfolding identity_at
  no_identity h = rw (opening_refuses (codes "Type: Identity") l ls [] h) refl

  no_revocation : same_line (codes "Type: Revocation") l ≡ false → last (revocation_at here) ≡ None
  unfolding revocation_at
  no_revocation h = rw (opening_refuses (codes "Type: Revocation") l ls [] h) refl

  no_certification : same_line (codes "Type: Certification") l ≡ false → last (certification_at here) ≡ None
  unfolding certification_at
  no_certification h = rw (opening_refuses (codes "Type: Certification") l ls [] h) refl

  no_membership : same_line (codes "Type: Membership") l ≡ false → last (membership_at here) ≡ None
  unfolding membership_at
  no_membership h = rw (opening_refuses (codes "Type: Membership") l ls [] h) refl

abbrev lines_of : Doc → Place
lines_of d = (all_lines d, [])

-- the lines behind the first two
abbrev behind : Rows → Rows
behind [] = []
behind (a ∷ []) = []
behind (a ∷ b ∷ ls) = ls

-- each document is read, and not as one of the types that are tried before its own
lines_again : (d : Doc) → IsDoc d → doc_of (lines_of d) ≡ Some d
unfolding doc_of short_doc_of
lines_again (Identity d) is = rw (identity_again d is) refl
lines_again (Revocation d) is =
    let l = codes "Type: Revocation" in
    let ls = behind (all_lines (Revocation d)) in
    rw (no_identity l ls refl, revocation_again d is) refl
lines_again (Certification d) is =
    let l = codes "Type: Certification" in
    let ls = behind (all_lines (Certification d)) in
    rw (no_identity l ls refl, no_revocation l ls refl, certification_again d is) refl
lines_again (Membership d) is =
    let l = codes "Type: Membership" in
    let ls = behind (all_lines (Membership d)) in
    rw (no_identity l ls refl, no_revocation l ls refl, no_certification l ls refl, membership_again d is) refl
lines_again (Transaction d) is =
    let l = codes "Type: Transaction" in
    let ls = behind (all_lines (Transaction d)) in
    rw (no_identity l ls refl, no_revocation l ls refl, no_certification l ls refl, no_membership l ls refl, transaction_again d is) refl

pub doc_again : (d : Doc) → IsDoc d → doc_of_text (doc_text d) ≡ Some d
unfolding doc_text
doc_again d is = ap doc_of (split_unlines (all_lines d) (doc_clear d is)) ∙ lines_again d is
