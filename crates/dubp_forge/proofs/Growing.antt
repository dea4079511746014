-- What adding a document, offering a certification and asking for a document come to.
use Rattle.std.proofs.Common.{◌≡◌, ℕ, ◌+◌, Bool, true, false, not, ◌&&◌, true≢false, List, [], ◌∷◌, ◌++◌, length, take, drop, Option, Some, None, refl, ap, sym, ◌∙◌, subst, append_assoc}
use Rattle.std.specs.Prelude.{find}
use Rattle.std.specs.List.{slice_get}
use Rattle.std.proofs.lemmas.List.{append-nil}
use Rattle.std.proofs.Math.Seq.{take-append_seam}
use Rattle.dubp_docs.specs.declared.doc.IdentityDoc.{IdentityDoc}
use Rattle.dubp_docs.specs.declared.doc.Doc.{Doc}
use Rattle.dubp_docs.specs.declared.doc.Doc.TheVariants.{Identity, Revocation, Certification, Membership, Transaction}
use Rattle.dubp_rules.specs.declared.rule.Rule.{Rule}
use Rattle.dubp_forging.specs.Forged.{Adds, Certifies, Forging, IsTried, is_in, is_mendable, with_found, with_membership}
use Rattle.dubp_forge.specs.Steps.{Asks, Extends, Offers, comes_with, docs_at, one_of}
use Rattle.dubp_forge.proofs.Places.{docs_at-append, docs_at-push}
use Rattle.dubp_forge.proofs.Passing.{rest_at}

-- ---- places that follow others

pub extends_same : (ps qs : List ℕ) → qs ≡ ps → Extends ps qs
extends_same ps qs is = record { more = []; is = is ∙ sym (append-nil ps) }

pub extends_through : (ps qs rs : List ℕ) → Extends ps qs → Extends qs rs → Extends ps rs
extends_through ps qs rs e h = record { more = e.more ++ h.more; is = h.is ∙ ap (λ l. l ++ h.more) e.is ∙ append_assoc ps e.more h.more }

-- the places before, as many as there were
pub taken_back : (ps qs : List ℕ) (p : ℕ) → Extends (ps ++ p ∷ []) qs → take (length ps) qs ≡ ps
taken_back ps qs p e = ap (take (length ps)) (e.is ∙ append_assoc ps (p ∷ []) e.more) ∙ take-append_seam ps (p ∷ e.more)

-- ---- a membership that comes along

one_more : (docs : List Doc) (o : Option Doc) → docs ++ (one_of o ++ []) ≡ with_found docs o
one_more docs None = append-nil docs
one_more docs (Some d) = refl

pub joins : (f : Forging) (ps : List ℕ) (p : ℕ) (i : IdentityDoc) → find (comes_with (docs_at f.pool ps) i) f.pool ≡ slice_get f.pool p
    → docs_at f.pool (ps ++ p ∷ []) ≡ with_membership f i (docs_at f.pool ps)
joins f ps p i found =
    docs_at-append f.pool ps (p ∷ []) ∙ one_more (docs_at f.pool ps) (slice_get f.pool p) ∙ ap (with_found (docs_at f.pool ps)) (sym found)

and_false : (a b : Bool) → b ≡ false → (a && b) ≡ false
and_false true b e = e
and_false false b e = refl

and_true : (a b : Bool) → a ≡ true → b ≡ true → (a && b) ≡ true
and_true true b e h = h
and_true false b e h = absurd (true≢false (sym e))

-- one that is in the draft is passed over, and one that is not is told by its test
pub passed_by : (docs : List Doc) (d : Doc) (test : Bool) → is_in docs d ≡ true → (test && not (is_in docs d)) ≡ false
passed_by docs d test in' = and_false test (not (is_in docs d)) (ap not in')

pub failed_by : (docs : List Doc) (d : Doc) (test : Bool) → test ≡ false → (test && not (is_in docs d)) ≡ false
failed_by docs d test fails = ap (λ b. b && not (is_in docs d)) fails

pub met_by : (docs : List Doc) (d : Doc) (test : Bool) → test ≡ true → is_in docs d ≡ false → (test && not (is_in docs d)) ≡ true
met_by docs d test passes out = and_true test (not (is_in docs d)) passes (ap not out)

-- what is found in the rest of a list is what is found
module _ (test : Doc → Bool) (xs : List Doc) (p : ℕ) (x : Doc) (at : slice_get xs p ≡ Some x) (on : find test (drop p xs) ≡ find test xs) where
  pub found_past : test x ≡ false → find test (drop (p + 1) xs) ≡ find test xs
  found_past fails = sym (ap (find test) (rest_at xs p x at) ∙ rw fails refl) ∙ on

  pub found_here : test x ≡ true → find test xs ≡ Some x
  found_here passes = sym on ∙ ap (find test) (rest_at xs p x at) ∙ rw passes refl

-- ---- an identity with what brings it in

pub adds_identity : (f : Forging) (ps qs rs ss : List ℕ) (p : ℕ) (i : IdentityDoc) → slice_get f.pool p ≡ Some (Identity i) → qs ≡ ps ++ p ∷ []
    → docs_at f.pool rs ≡ with_membership f i (docs_at f.pool qs) → Certifies f i.issuer f.pool (docs_at f.pool rs) (docs_at f.pool ss)
    → (d : Doc) → slice_get f.pool p ≡ Some d → Adds f (docs_at f.pool ps) d (docs_at f.pool ss)
adds_identity f ps qs rs ss p i at is joined certified d same =
    let e : Identity i ≡ d = cc in
    let docs : docs_at f.pool qs ≡ docs_at f.pool ps ++ Identity i ∷ [] = ap (docs_at f.pool) is ∙ docs_at-push f.pool ps p (Identity i) at in
    subst (λ x. Adds f (docs_at f.pool ps) x (docs_at f.pool ss)) e
    (subst (λ l. Certifies f i.issuer f.pool l (docs_at f.pool ss)) (joined ∙ ap (with_membership f i) docs) certified)

-- ---- another document alone

pub adds_other : (f : Forging) (ps qs : List ℕ) (p : ℕ) (e : Doc) → slice_get f.pool p ≡ Some e → qs ≡ ps ++ p ∷ [] → ((i : IdentityDoc) → e ≡ Identity i → ⊥)
    → (d : Doc) → slice_get f.pool p ≡ Some d → Adds f (docs_at f.pool ps) d (docs_at f.pool qs)
adds_other f ps qs p e at is other (Identity i) same = let one : e ≡ Identity i = cc in absurd (other i one)
adds_other f ps qs p e at is other (Revocation r) same = ap (docs_at f.pool) is ∙ docs_at-push f.pool ps p (Revocation r) same
adds_other f ps qs p e at is other (Certification r) same = ap (docs_at f.pool) is ∙ docs_at-push f.pool ps p (Certification r) same
adds_other f ps qs p e at is other (Membership r) same = ap (docs_at f.pool) is ∙ docs_at-push f.pool ps p (Membership r) same
adds_other f ps qs p e at is other (Transaction r) same = ap (docs_at f.pool) is ∙ docs_at-push f.pool ps p (Transaction r) same

-- ---- a certification that is offered

module _ (f : Forging) (ps qs rs : List ℕ) (p : ℕ) (d : Doc) (found : Option Rule) (at : slice_get f.pool p ≡ Some d) (is : qs ≡ ps ++ p ∷ []) (tried : IsTried f (docs_at f.pool qs) found) where
  with_it : docs_at f.pool qs ≡ docs_at f.pool ps ++ d ∷ []
  with_it = ap (docs_at f.pool) is ∙ docs_at-push f.pool ps p d at

  pub offer_stays : is_mendable found ≡ true → rs ≡ qs → Offers f (docs_at f.pool ps) d (docs_at f.pool rs)
  offer_stays may same = (found, subst (λ l. IsTried f l found) with_it tried, rw may (ap (docs_at f.pool) same ∙ with_it))

  pub offer_leaves : is_mendable found ≡ false → rs ≡ ps → Offers f (docs_at f.pool ps) d (docs_at f.pool rs)
  offer_leaves may same = (found, subst (λ l. IsTried f l found) with_it tried, rw may (ap (docs_at f.pool) same))

-- ---- a document that is asked for

module _ (f : Forging) (ps qs rs : List ℕ) (d : Doc) (adds : Adds f (docs_at f.pool ps) d (docs_at f.pool qs)) where
  pub ask_takes : IsTried f (docs_at f.pool qs) None → rs ≡ qs → Asks f (docs_at f.pool ps) d None (docs_at f.pool rs)
  ask_takes tried same = (docs_at f.pool qs, adds, tried, ap (docs_at f.pool) same)

  pub ask_leaves : (rule : Rule) → IsTried f (docs_at f.pool qs) (Some rule) → rs ≡ ps → Asks f (docs_at f.pool ps) d (Some rule) (docs_at f.pool rs)
  ask_leaves rule tried same = (docs_at f.pool qs, adds, tried, ap (docs_at f.pool) same)
