-- The lines of a draft with a document more, and without the last.
use Rattle.std.proofs.Common.{◌≡◌, Bool, true, false, cond, List, [], ◌∷◌, ◌++◌, refl, ap, sym, ◌∙◌}
use Rattle.std.specs.List.{flat_map}
use Rattle.std.proofs.lemmas.Grind.{flat_map-append}
use Rattle.std.proofs.lemmas.List.{append-nil}
use Rattle.dubp_atoms.specs.Same.{Text}
use Rattle.std.specs.Prelude.{ℕ}
use Rattle.dubp_docs.specs.declared.doc.MembershipDoc.{MembershipDoc}
use Rattle.dubp_docs.specs.declared.doc.Doc.{Doc}
use Rattle.dubp_docs.specs.declared.doc.Doc.TheVariants.{Identity, Revocation, Certification, Membership, Transaction}
use Rattle.dubp_block.specs.declared.block.Block.{Block}
use Rattle.dubp_chain.specs.Chains.{Chain}
use Rattle.dubp_chain.specs.Members.{member}
use Rattle.dubp_forging.specs.Filled.{KeepsDraft}
use Rattle.dubp_forging.specs.Drafts.{actives_of, certification_line, certifications_of, identities_of, identity_line, joiners_of, leavers_of, membership_line, revoked_line, revoked_of, transactions_of, with_lines}
use Rattle.dubp_forge.specs.Steps.{all_but_last, with_line, without_line}
use Rattle.dubp_forge.proofs.Places.{all_but_last-push}

module _ {A : Type 0} (f : Doc → List A) (docs : List Doc) (d : Doc) where
  pushed : flat_map f (docs ++ d ∷ []) ≡ flat_map f docs ++ (f d ++ [])
  pushed = flat_map-append f docs (d ∷ [])

  -- a section that gets a line, and one that gets none
  more : (xs : List A) (line : A) → f d ≡ line ∷ [] → xs ≡ flat_map f docs → xs ++ line ∷ [] ≡ flat_map f (docs ++ d ∷ [])
  more xs line one is = ap (λ l. l ++ line ∷ []) is ∙ ap (λ l. flat_map f docs ++ (l ++ [])) (sym one) ∙ sym pushed

  same : (xs : List A) → f d ≡ [] → xs ≡ flat_map f docs → xs ≡ flat_map f (docs ++ d ∷ [])
  same xs none is = is ∙ sym (append-nil (flat_map f docs)) ∙ ap (λ l. flat_map f docs ++ (l ++ [])) (sym none) ∙ sym pushed

  -- and back
  less : (xs : List A) (line : A) → f d ≡ line ∷ [] → xs ≡ flat_map f (docs ++ d ∷ []) → all_but_last xs ≡ flat_map f docs
  less xs line one is = ap all_but_last (is ∙ pushed ∙ ap (λ l. flat_map f docs ++ (l ++ [])) one) ∙ all_but_last-push (flat_map f docs) line

  left : (xs : List A) → f d ≡ [] → xs ≡ flat_map f (docs ++ d ∷ []) → xs ≡ flat_map f docs
  left xs none is = is ∙ pushed ∙ ap (λ l. flat_map f docs ++ (l ++ [])) none ∙ append-nil (flat_map f docs)

-- ---- a document more

module _ (c : Chain) (issuer : Text) (time : ℕ) (docs : List Doc) (b : Block) (keeps : KeepsDraft (with_lines c issuer time docs) b) where
  -- with a membership, by where it goes
  member_more : (d : MembershipDoc) (in' there : Bool) → d.membership ≡ in' → member c d.issuer ≡ there
      → KeepsDraft (with_lines c issuer time (docs ++ Membership d ∷ []))
      (cond in' (cond there (record b { actives = b.actives ++ membership_line d ∷ [] }) (record b { joiners = b.joiners ++ membership_line d ∷ [] })) (record b { leavers = b.leavers ++ membership_line d ∷ [] }))
  member_more d true true e h = record {
    issuer = keeps.issuer;
    time = keeps.time;
    identities = same identities_of docs (Membership d) _ refl keeps.identities;
    joiners = same (joiners_of c) docs (Membership d) _ (rw (e, h) refl) keeps.joiners;
    actives = more (actives_of c) docs (Membership d) _ (membership_line d) (rw (e, h) refl) keeps.actives;
    leavers = same leavers_of docs (Membership d) _ (rw e refl) keeps.leavers;
    revoked = same revoked_of docs (Membership d) _ refl keeps.revoked;
    certifications = same certifications_of docs (Membership d) _ refl keeps.certifications;
    transactions = same transactions_of docs (Membership d) _ refl keeps.transactions;
  }
  member_more d true false e h = record {
    issuer = keeps.issuer;
    time = keeps.time;
    identities = same identities_of docs (Membership d) _ refl keeps.identities;
    joiners = more (joiners_of c) docs (Membership d) _ (membership_line d) (rw (e, h) refl) keeps.joiners;
    actives = same (actives_of c) docs (Membership d) _ (rw (e, h) refl) keeps.actives;
    leavers = same leavers_of docs (Membership d) _ (rw e refl) keeps.leavers;
    revoked = same revoked_of docs (Membership d) _ refl keeps.revoked;
    certifications = same certifications_of docs (Membership d) _ refl keeps.certifications;
    transactions = same transactions_of docs (Membership d) _ refl keeps.transactions;
  }
  member_more d false there e h = record {
    issuer = keeps.issuer;
    time = keeps.time;
    identities = same identities_of docs (Membership d) _ refl keeps.identities;
    joiners = same (joiners_of c) docs (Membership d) _ (rw e refl) keeps.joiners;
    actives = same (actives_of c) docs (Membership d) _ (rw e refl) keeps.actives;
    leavers = more leavers_of docs (Membership d) _ (membership_line d) (rw e refl) keeps.leavers;
    revoked = same revoked_of docs (Membership d) _ refl keeps.revoked;
    certifications = same certifications_of docs (Membership d) _ refl keeps.certifications;
    transactions = same transactions_of docs (Membership d) _ refl keeps.transactions;
  }

  pub keeps_more : (d : Doc) → KeepsDraft (with_lines c issuer time (docs ++ d ∷ [])) (with_line c d b)
  keeps_more (Membership d) = member_more d d.membership (member c d.issuer) refl refl
  keeps_more (Identity d) = record {
    issuer = keeps.issuer;
    time = keeps.time;
    identities = more identities_of docs (Identity d) _ (identity_line d) refl keeps.identities;
    joiners = same (joiners_of c) docs (Identity d) _ refl keeps.joiners;
    actives = same (actives_of c) docs (Identity d) _ refl keeps.actives;
    leavers = same leavers_of docs (Identity d) _ refl keeps.leavers;
    revoked = same revoked_of docs (Identity d) _ refl keeps.revoked;
    certifications = same certifications_of docs (Identity d) _ refl keeps.certifications;
    transactions = same transactions_of docs (Identity d) _ refl keeps.transactions;
  }
  keeps_more (Revocation d) = record {
    issuer = keeps.issuer;
    time = keeps.time;
    identities = same identities_of docs (Revocation d) _ refl keeps.identities;
    joiners = same (joiners_of c) docs (Revocation d) _ refl keeps.joiners;
    actives = same (actives_of c) docs (Revocation d) _ refl keeps.actives;
    leavers = same leavers_of docs (Revocation d) _ refl keeps.leavers;
    revoked = more revoked_of docs (Revocation d) _ (revoked_line d) refl keeps.revoked;
    certifications = same certifications_of docs (Revocation d) _ refl keeps.certifications;
    transactions = same transactions_of docs (Revocation d) _ refl keeps.transactions;
  }
  keeps_more (Certification d) = record {
    issuer = keeps.issuer;
    time = keeps.time;
    identities = same identities_of docs (Certification d) _ refl keeps.identities;
    joiners = same (joiners_of c) docs (Certification d) _ refl keeps.joiners;
    actives = same (actives_of c) docs (Certification d) _ refl keeps.actives;
    leavers = same leavers_of docs (Certification d) _ refl keeps.leavers;
    revoked = same revoked_of docs (Certification d) _ refl keeps.revoked;
    certifications = more certifications_of docs (Certification d) _ (certification_line d) refl keeps.certifications;
    transactions = same transactions_of docs (Certification d) _ refl keeps.transactions;
  }
  keeps_more (Transaction d) = record {
    issuer = keeps.issuer;
    time = keeps.time;
    identities = same identities_of docs (Transaction d) _ refl keeps.identities;
    joiners = same (joiners_of c) docs (Transaction d) _ refl keeps.joiners;
    actives = same (actives_of c) docs (Transaction d) _ refl keeps.actives;
    leavers = same leavers_of docs (Transaction d) _ refl keeps.leavers;
    revoked = same revoked_of docs (Transaction d) _ refl keeps.revoked;
    certifications = same certifications_of docs (Transaction d) _ refl keeps.certifications;
    transactions = more transactions_of docs (Transaction d) _ d.tx refl keeps.transactions;
  }

-- ---- without the last document

module _ (c : Chain) (issuer : Text) (time : ℕ) (docs : List Doc) (b : Block) where
  member_less : (d : MembershipDoc) → KeepsDraft (with_lines c issuer time (docs ++ Membership d ∷ [])) b → (in' there : Bool) → d.membership ≡ in' → member c d.issuer ≡ there
      → KeepsDraft (with_lines c issuer time docs)
      (cond in' (cond there (record b { actives = all_but_last b.actives }) (record b { joiners = all_but_last b.joiners })) (record b { leavers = all_but_last b.leavers }))
  member_less d keeps true true e h = record {
    issuer = keeps.issuer;
    time = keeps.time;
    identities = left identities_of docs (Membership d) _ refl keeps.identities;
    joiners = left (joiners_of c) docs (Membership d) _ (rw (e, h) refl) keeps.joiners;
    actives = less (actives_of c) docs (Membership d) _ (membership_line d) (rw (e, h) refl) keeps.actives;
    leavers = left leavers_of docs (Membership d) _ (rw e refl) keeps.leavers;
    revoked = left revoked_of docs (Membership d) _ refl keeps.revoked;
    certifications = left certifications_of docs (Membership d) _ refl keeps.certifications;
    transactions = left transactions_of docs (Membership d) _ refl keeps.transactions;
  }
  member_less d keeps true false e h = record {
    issuer = keeps.issuer;
    time = keeps.time;
    identities = left identities_of docs (Membership d) _ refl keeps.identities;
    joiners = less (joiners_of c) docs (Membership d) _ (membership_line d) (rw (e, h) refl) keeps.joiners;
    actives = left (actives_of c) docs (Membership d) _ (rw (e, h) refl) keeps.actives;
    leavers = left leavers_of docs (Membership d) _ (rw e refl) keeps.leavers;
    revoked = left revoked_of docs (Membership d) _ refl keeps.revoked;
    certifications = left certifications_of docs (Membership d) _ refl keeps.certifications;
    transactions = left transactions_of docs (Membership d) _ refl keeps.transactions;
  }
  member_less d keeps false there e h = record {
    issuer = keeps.issuer;
    time = keeps.time;
    identities = left identities_of docs (Membership d) _ refl keeps.identities;
    joiners = left (joiners_of c) docs (Membership d) _ (rw e refl) keeps.joiners;
    actives = left (actives_of c) docs (Membership d) _ (rw e refl) keeps.actives;
    leavers = less leavers_of docs (Membership d) _ (membership_line d) (rw e refl) keeps.leavers;
    revoked = left revoked_of docs (Membership d) _ refl keeps.revoked;
    certifications = left certifications_of docs (Membership d) _ refl keeps.certifications;
    transactions = left transactions_of docs (Membership d) _ refl keeps.transactions;
  }

  pub keeps_less : (d : Doc) → KeepsDraft (with_lines c issuer time (docs ++ d ∷ [])) b → KeepsDraft (with_lines c issuer time docs) (without_line c d b)
  keeps_less (Membership d) keeps = member_less d keeps d.membership (member c d.issuer) refl refl
  keeps_less (Identity d) keeps = record {
    issuer = keeps.issuer;
    time = keeps.time;
    identities = less identities_of docs (Identity d) _ (identity_line d) refl keeps.identities;
    joiners = left (joiners_of c) docs (Identity d) _ refl keeps.joiners;
    actives = left (actives_of c) docs (Identity d) _ refl keeps.actives;
    leavers = left leavers_of docs (Identity d) _ refl keeps.leavers;
    revoked = left revoked_of docs (Identity d) _ refl keeps.revoked;
    certifications = left certifications_of docs (Identity d) _ refl keeps.certifications;
    transactions = left transactions_of docs (Identity d) _ refl keeps.transactions;
  }
  keeps_less (Revocation d) keeps = record {
    issuer = keeps.issuer;
    time = keeps.time;
    identities = left identities_of docs (Revocation d) _ refl keeps.identities;
    joiners = left (joiners_of c) docs (Revocation d) _ refl keeps.joiners;
    actives = left (actives_of c) docs (Revocation d) _ refl keeps.actives;
    leavers = left leavers_of docs (Revocation d) _ refl keeps.leavers;
    revoked = less revoked_of docs (Revocation d) _ (revoked_line d) refl keeps.revoked;
    certifications = left certifications_of docs (Revocation d) _ refl keeps.certifications;
    transactions = left transactions_of docs (Revocation d) _ refl keeps.transactions;
  }
  keeps_less (Certification d) keeps = record {
    issuer = keeps.issuer;
    time = keeps.time;
    identities = left identities_of docs (Certification d) _ refl keeps.identities;
    joiners = left (joiners_of c) docs (Certification d) _ refl keeps.joiners;
    actives = left (actives_of c) docs (Certification d) _ refl keeps.actives;
    leavers = left leavers_of docs (Certification d) _ refl keeps.leavers;
    revoked = left revoked_of docs (Certification d) _ refl keeps.revoked;
    certifications = less certifications_of docs (Certification d) _ (certification_line d) refl keeps.certifications;
    transactions = left transactions_of docs (Certification d) _ refl keeps.transactions;
  }
  keeps_less (Transaction d) keeps = record {
    issuer = keeps.issuer;
    time = keeps.time;
    identities = left identities_of docs (Transaction d) _ refl keeps.identities;
    joiners = left (joiners_of c) docs (Transaction d) _ refl keeps.joiners;
    actives = left (actives_of c) docs (Transaction d) _ refl keeps.actives;
    leavers = left leavers_of docs (Transaction d) _ refl keeps.leavers;
    revoked = left revoked_of docs (Transaction d) _ refl keeps.revoked;
    certifications = left certifications_of docs (Transaction d) _ refl keeps.certifications;
    transactions = less transactions_of docs (Transaction d) _ d.tx refl keeps.transactions;
  }
