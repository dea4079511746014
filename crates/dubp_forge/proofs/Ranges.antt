-- What a draft says is in range, and it is small.
use Rattle.std.proofs.Common.{◌≡◌, ℕ, ◌+◌, ◌*◌, ◌^◌, ◌<◌, ◌≤◌, Bool, true, false, cond, List, [], ◌∷◌, ◌++◌, length, map, ap, sym, subst, arith}
use Rattle.std.specs.Prelude.{All}
use Rattle.std.specs.List.{AllByRecursion, flat_map}
use Rattle.std.proofs.lemmas.List.{length-append, length-map}
use Rattle.std.proofs.lemmas.List.Elements.{All-append, All-cons, All-nil}
use Rattle.dubp_atoms.specs.Same.{Text}
use Rattle.dubp_atoms.specs.Spelling.{IsNumber, stamp_text}
use Rattle.dubp_cond.specs.Sources.{input_text}
use Rattle.dubp_cond.specs.Unlocks.{unlock_line_text}
use Rattle.dubp_cond.specs.Outputs.{output_text}
use Rattle.dubp_cond.specs.Transactions.{IsTx}
use Rattle.dubp_cond.specs.declared.tx.Tx.{Tx}
use Rattle.dubp_docs.specs.declared.doc.MembershipDoc.{MembershipDoc}
use Rattle.dubp_docs.specs.declared.doc.Doc.{Doc}
use Rattle.dubp_docs.specs.declared.doc.Doc.TheVariants.{Identity, Revocation, Certification, Membership, Transaction}
use Rattle.dubp_docs.specs.Spelling.{IsDoc, IsMembershipDoc}
use Rattle.dubp_block.specs.Sections.{IsCertification, IsIdentity, IsMembership, IsRevocation, comment_lines, compact_lines, transaction_lines, tx_line}
use Rattle.dubp_block.specs.Text.{size_of}
use Rattle.dubp_block.specs.declared.block.Block.{Block}
use Rattle.dubp_chain.specs.Chains.{Chain}
use Rattle.dubp_forging.specs.Filled.{IsDraft, KeepsDraft}
use Rattle.dubp_forging.specs.Drafts.{actives_of, certifications_of, identities_of, joiners_of, leavers_of, membership_line, revoked_of, transactions_of, with_lines}

one : {A : Type 0} (P : A → Type 0) (x : A) → P x → All P (x ∷ [])
one P x p = All-cons P x [] p (All-nil P)

each_line : {A : Type 0} (P : A → Type 0) (f : Doc → List A) → ((d : Doc) → IsDoc d → All P (f d)) → (docs : List Doc) → AllByRecursion IsDoc docs → All P (flat_map f docs)
each_line P f of [] all = All-nil P
each_line P f of (d ∷ docs) all = All-append P (f d) (flat_map f docs) (of d all.0) (each_line P f of docs all.1)

identities_are : (d : Doc) → IsDoc d → All IsIdentity (identities_of d)
identities_are (Identity d) is = one IsIdentity _ (record { key = is.issuer; sig = is.sig; stamp = is.timestamp; uid = is.unique_id })
identities_are (Revocation d) is = All-nil IsIdentity
identities_are (Certification d) is = All-nil IsIdentity
identities_are (Membership d) is = All-nil IsIdentity
identities_are (Transaction d) is = All-nil IsIdentity

where_chosen : (b : Bool) (d : MembershipDoc) → IsMembershipDoc d → All IsMembership (cond b (membership_line d ∷ []) [])
where_chosen true d is = one IsMembership _ (record { key = is.issuer; sig = is.sig; stamp = is.block; identity_stamp = is.cert_ts; uid = is.user_id })
where_chosen false d is = All-nil IsMembership

where_not : (b : Bool) (d : MembershipDoc) → IsMembershipDoc d → All IsMembership (cond b [] (membership_line d ∷ []))
where_not true d is = All-nil IsMembership
where_not false d is = one IsMembership _ (record { key = is.issuer; sig = is.sig; stamp = is.block; identity_stamp = is.cert_ts; uid = is.user_id })

joiners_are : (c : Chain) (d : Doc) → IsDoc d → All IsMembership (joiners_of c d)
joiners_are c (Membership d) is = where_chosen _ d is
joiners_are c (Identity d) is = All-nil IsMembership
joiners_are c (Revocation d) is = All-nil IsMembership
joiners_are c (Certification d) is = All-nil IsMembership
joiners_are c (Transaction d) is = All-nil IsMembership

actives_are : (c : Chain) (d : Doc) → IsDoc d → All IsMembership (actives_of c d)
actives_are c (Membership d) is = where_chosen _ d is
actives_are c (Identity d) is = All-nil IsMembership
actives_are c (Revocation d) is = All-nil IsMembership
actives_are c (Certification d) is = All-nil IsMembership
actives_are c (Transaction d) is = All-nil IsMembership

leavers_are : (d : Doc) → IsDoc d → All IsMembership (leavers_of d)
leavers_are (Membership d) is = where_not _ d is
leavers_are (Identity d) is = All-nil IsMembership
leavers_are (Revocation d) is = All-nil IsMembership
leavers_are (Certification d) is = All-nil IsMembership
leavers_are (Transaction d) is = All-nil IsMembership

revoked_are : (d : Doc) → IsDoc d → All IsRevocation (revoked_of d)
revoked_are (Revocation d) is = one IsRevocation _ (record { key = is.issuer; sig = is.sig })
revoked_are (Identity d) is = All-nil IsRevocation
revoked_are (Certification d) is = All-nil IsRevocation
revoked_are (Membership d) is = All-nil IsRevocation
revoked_are (Transaction d) is = All-nil IsRevocation

certifications_are : (d : Doc) → IsDoc d → All IsCertification (certifications_of d)
certifications_are (Certification d) is = one IsCertification _ (record { from = is.issuer; to = is.idty_issuer; number = is.cert_timestamp.number; sig = is.sig })
certifications_are (Identity d) is = All-nil IsCertification
certifications_are (Revocation d) is = All-nil IsCertification
certifications_are (Membership d) is = All-nil IsCertification
certifications_are (Transaction d) is = All-nil IsCertification

transactions_are : (d : Doc) → IsDoc d → All IsTx (transactions_of d)
transactions_are (Transaction d) is = one IsTx _ is.tx
transactions_are (Identity d) is = All-nil IsTx
transactions_are (Revocation d) is = All-nil IsTx
transactions_are (Certification d) is = All-nil IsTx
transactions_are (Membership d) is = All-nil IsTx

pub is_draft : (c : Chain) (issuer : Text) (time : ℕ) (docs : List Doc) (b : Block) → IsNumber time → AllByRecursion IsDoc docs → KeepsDraft (with_lines c issuer time docs) b → IsDraft b
is_draft c issuer time docs b number all keeps = record {
  time = subst IsNumber (sym keeps.time) number;
  identities = subst (All IsIdentity) (sym keeps.identities) (each_line IsIdentity identities_of identities_are docs all);
  joiners = subst (All IsMembership) (sym keeps.joiners) (each_line IsMembership (joiners_of c) (joiners_are c) docs all);
  actives = subst (All IsMembership) (sym keeps.actives) (each_line IsMembership (actives_of c) (actives_are c) docs all);
  leavers = subst (All IsMembership) (sym keeps.leavers) (each_line IsMembership leavers_of leavers_are docs all);
  revoked = subst (All IsRevocation) (sym keeps.revoked) (each_line IsRevocation revoked_of revoked_are docs all);
  certifications = subst (All IsCertification) (sym keeps.certifications) (each_line IsCertification certifications_of certifications_are docs all);
  transactions = subst (All IsTx) (sym keeps.transactions) (each_line IsTx transactions_of transactions_are docs all);
}

-- ---- the size

few_lines : {A : Type 0} (f : Doc → List A) → ((d : Doc) → length (f d) ≤ 1) → (docs : List Doc) → length (flat_map f docs) ≤ length docs
few_lines f of [] = omega arith
few_lines f of (d ∷ docs) = omega (arith, length-append (f d) (flat_map f docs), of d, few_lines f of docs)

few_chosen : {A : Type 0} (b : Bool) (x : A) → length (cond b (x ∷ []) []) ≤ 1
few_chosen true x = omega arith
few_chosen false x = omega arith

few_not : {A : Type 0} (b : Bool) (x : A) → length (cond b [] (x ∷ [])) ≤ 1
few_not true x = omega arith
few_not false x = omega arith

one_identity : (d : Doc) → length (identities_of d) ≤ 1
one_identity (Identity d) = omega arith
one_identity (Revocation d) = omega arith
one_identity (Certification d) = omega arith
one_identity (Membership d) = omega arith
one_identity (Transaction d) = omega arith

one_joiner : (c : Chain) (d : Doc) → length (joiners_of c d) ≤ 1
one_joiner c (Membership d) = few_chosen _ (membership_line d)
one_joiner c (Identity d) = omega arith
one_joiner c (Revocation d) = omega arith
one_joiner c (Certification d) = omega arith
one_joiner c (Transaction d) = omega arith

one_active : (c : Chain) (d : Doc) → length (actives_of c d) ≤ 1
one_active c (Membership d) = few_chosen _ (membership_line d)
one_active c (Identity d) = omega arith
one_active c (Revocation d) = omega arith
one_active c (Certification d) = omega arith
one_active c (Transaction d) = omega arith

one_leaver : (d : Doc) → length (leavers_of d) ≤ 1
one_leaver (Membership d) = few_not _ (membership_line d)
one_leaver (Identity d) = omega arith
one_leaver (Revocation d) = omega arith
one_leaver (Certification d) = omega arith
one_leaver (Transaction d) = omega arith

one_revoked : (d : Doc) → length (revoked_of d) ≤ 1
one_revoked (Revocation d) = omega arith
one_revoked (Identity d) = omega arith
one_revoked (Certification d) = omega arith
one_revoked (Membership d) = omega arith
one_revoked (Transaction d) = omega arith

one_certification : (d : Doc) → length (certifications_of d) ≤ 1
one_certification (Certification d) = omega arith
one_certification (Identity d) = omega arith
one_certification (Revocation d) = omega arith
one_certification (Membership d) = omega arith
one_certification (Transaction d) = omega arith

few_comments : (comment : Text) → length (comment_lines comment) ≤ 1
few_comments [] = omega arith
few_comments (x ∷ comment) = omega arith

few_joined : (a b : Text) (p q r s t u : List Text) → length p ≤ 100 → length q ≤ 100 → length r ≤ 100 → length s ≤ 100 → length t ≤ 1 → length u ≤ 100
    → length (a ∷ b ∷ (p ++ (q ++ (r ++ (s ++ (t ++ u)))))) ≤ 503
few_joined a b p q r s t u h i j k l m =
    omega (arith, length-append p (q ++ (r ++ (s ++ (t ++ u)))), length-append q (r ++ (s ++ (t ++ u))), length-append r (s ++ (t ++ u)), length-append s (t ++ u), length-append t u)

few_compact : (tx : Tx) → IsTx tx → length (compact_lines tx) ≤ 503
few_compact tx is =
    few_joined (tx_line tx) (stamp_text tx.stamp) tx.issuers (map input_text tx.inputs) (map unlock_line_text tx.unlocks) (map output_text tx.outputs) (comment_lines tx.comment) tx.sigs
    is.issuers.few
    (omega (arith, length-map tx.inputs input_text, is.inputs.few))
    (omega (arith, length-map tx.unlocks unlock_line_text, is.unlocks.few))
    (omega (arith, length-map tx.outputs output_text, is.outputs.few))
    (few_comments tx.comment)
    (omega (arith, is.signed, is.issuers.few))

lines_more : (tx : Tx) (txs : List Tx) → length (transaction_lines (tx ∷ txs)) ≡ length (compact_lines tx) + length (transaction_lines txs)
lines_more tx txs = length-append (compact_lines tx) (transaction_lines txs)

few_transactions : (docs : List Doc) → AllByRecursion IsDoc docs → length (transaction_lines (flat_map transactions_of docs)) ≤ 503 * length docs
few_transactions [] all = omega arith
few_transactions (Transaction d ∷ docs) all =
    omega (arith, lines_more d.tx (flat_map transactions_of docs), few_compact d.tx all.0.tx, few_transactions docs all.1)
few_transactions (Identity d ∷ docs) all = omega (arith, few_transactions docs all.1)
few_transactions (Revocation d ∷ docs) all = omega (arith, few_transactions docs all.1)
few_transactions (Certification d ∷ docs) all = omega (arith, few_transactions docs all.1)
few_transactions (Membership d ∷ docs) all = omega (arith, few_transactions docs all.1)

pub is_small : (c : Chain) (issuer : Text) (time : ℕ) (docs : List Doc) (b : Block) → AllByRecursion IsDoc docs → length docs ≤ 1024 → KeepsDraft (with_lines c issuer time docs) b → size_of b < 2 ^ 53
is_small c issuer time docs b all few keeps =
    omega (
      arith,
      ap length keeps.identities,
      ap length keeps.joiners,
      ap length keeps.actives,
      ap length keeps.leavers,
      ap length keeps.revoked,
      ap length keeps.certifications,
      ap (λ l. length (transaction_lines l)) keeps.transactions,
      few_lines identities_of one_identity docs,
      few_lines (joiners_of c) (one_joiner c) docs,
      few_lines (actives_of c) (one_active c) docs,
      few_lines leavers_of one_leaver docs,
      few_lines revoked_of one_revoked docs,
      few_lines certifications_of one_certification docs,
      few_transactions docs all,
      few,
    )

pub few_joiners : (c : Chain) (issuer : Text) (time : ℕ) (docs : List Doc) (b : Block) → length docs ≤ 1024 → KeepsDraft (with_lines c issuer time docs) b → length b.joiners ≤ 65536
few_joiners c issuer time docs b few keeps = omega (arith, ap length keeps.joiners, few_lines (joiners_of c) (one_joiner c) docs, few)
