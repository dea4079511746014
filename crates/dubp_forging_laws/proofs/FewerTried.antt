-- A draft of documents, the last of which are transactions, is the draft of the first of them with more transactions.
use Rattle.std.proofs.Common.{◌≡◌, ◌⊎◌, ℕ, Bool, true, false, not, cond, List, [], ◌∷◌, ◌++◌, length, append-nil, Option, Some, None, refl, sym, ap, subst, ◌∙◌}
use Rattle.std.specs.Prelude.{filter}
use Rattle.std.specs.List.{AllByRecursion, flat_map}
use Rattle.std.proofs.lemmas.List.Concat.{flat_map-append}
use Rattle.dubp_atoms.specs.Same.{Text}
use Rattle.dubp_cond.specs.declared.tx.Tx.{Tx}
use Rattle.dubp_docs.specs.declared.doc.Doc.{Doc}
use Rattle.dubp_docs.specs.declared.doc.Doc.TheVariants.{Identity, Revocation, Certification, Membership, Transaction}
use Rattle.dubp_block.specs.declared.block.Block.{Block}
use Rattle.dubp_rules.specs.declared.rule.Rule.{Rule}
use Rattle.dubp_rules.specs.Table.{table_rules}
use Rattle.dubp_verdict.specs.Verdicts.{Verdicts}
use Rattle.dubp_chain.specs.Chains.{Chain}
use Rattle.dubp_validity.specs.Drafts.{is_of_sealing, draft_rules, HoldsWritten, FirstBad}
use Rattle.dubp_forging.specs.Filled.{IsFilled}
use Rattle.dubp_forging.specs.Drafts.{IsDraftOf, with_lines, identities_of, joiners_of, actives_of, leavers_of, revoked_of, certifications_of, transactions_of}
use Rattle.dubp_forging.specs.Forged.{Forging, IsTried}
use Rattle.dubp_forging_laws.specs.Laws.{FewerTransactionsFit, IsTransaction, with_transactions}
use Rattle.dubp_forging_laws.proofs.HashLength.{hash_length}
use Rattle.dubp_forging_laws.proofs.Fewer.{hold_fewer, inner_right}

-- ---- transactions add no other line

none_of : {A : Type 0} (lines : Doc → List A) → ((d : Doc) → IsTransaction d → lines d ≡ []) → (more : List Doc) → AllByRecursion IsTransaction more → flat_map lines more ≡ []
none_of lines none [] all = refl
none_of lines none (d ∷ more) all = ap (λ l. l ++ flat_map lines more) (none d all.0) ∙ none_of lines none more all.1

same_lines : {A : Type 0} (lines : Doc → List A) → ((d : Doc) → IsTransaction d → lines d ≡ []) → (docs more : List Doc) → AllByRecursion IsTransaction more → flat_map lines (docs ++ more) ≡ flat_map lines docs
same_lines lines none docs more all =
    flat_map-append lines docs more ∙ ap (λ l. flat_map lines docs ++ l) (none_of lines none more all) ∙ append-nil (flat_map lines docs)

no_identity : (d : Doc) → IsTransaction d → identities_of d ≡ []
no_identity (Transaction d) is = refl
no_identity d is = absurd is

no_joiner : (c : Chain) (d : Doc) → IsTransaction d → joiners_of c d ≡ []
no_joiner c (Transaction d) is = refl
no_joiner c d is = absurd is

no_active : (c : Chain) (d : Doc) → IsTransaction d → actives_of c d ≡ []
no_active c (Transaction d) is = refl
no_active c d is = absurd is

no_leaver : (d : Doc) → IsTransaction d → leavers_of d ≡ []
no_leaver (Transaction d) is = refl
no_leaver d is = absurd is

no_revoked : (d : Doc) → IsTransaction d → revoked_of d ≡ []
no_revoked (Transaction d) is = refl
no_revoked d is = absurd is

no_certification : (d : Doc) → IsTransaction d → certifications_of d ≡ []
no_certification (Transaction d) is = refl
no_certification d is = absurd is

-- ---- the draft

module _ (a : Block) (c : Chain) (issuer : Text) (time : ℕ) (docs more : List Doc) (all : AllByRecursion IsTransaction more) (b : Block) (is : IsDraftOf (a ∷ c) issuer time (docs ++ more) b) where
  abbrev fewer : Block
  fewer = with_transactions b (flat_map transactions_of docs)

  fewer_is : IsDraftOf (a ∷ c) issuer time docs fewer
  fewer_is =
      let k = is.keeps in
      let s = is.states in
      record {
        keeps = record {
          issuer = k.issuer;
          time = k.time;
          identities = k.identities ∙ same_lines identities_of no_identity docs more all;
          joiners = k.joiners ∙ same_lines (joiners_of (a ∷ c)) (no_joiner (a ∷ c)) docs more all;
          actives = k.actives ∙ same_lines (actives_of (a ∷ c)) (no_active (a ∷ c)) docs more all;
          leavers = k.leavers ∙ same_lines leavers_of no_leaver docs more all;
          revoked = k.revoked ∙ same_lines revoked_of no_revoked docs more all;
          certifications = k.certifications ∙ same_lines certifications_of no_certification docs more all;
          transactions = refl;
        };
        behind = is.behind;
        currency = is.currency;
        number = is.number;
        params = is.params;
        excluded = is.excluded;
        states = record { pow_min = s.pow_min; median_time = s.median_time; frame = s.frame; frame_var = s.frame_var; issuers = s.issuers; members = s.members };
        money = is.money;
        inner_hash = inner_right b (flat_map transactions_of docs);
        nonce = is.nonce;
        sig = is.sig;
      }

  cut : b.transactions ≡ flat_map transactions_of docs ++ flat_map transactions_of more
  cut = is.keeps.transactions ∙ flat_map-append transactions_of docs more

  as_long : length fewer.inner_hash ≡ length b.inner_hash
  as_long = hash_length _ ∙ sym (ap length is.inner_hash ∙ hash_length _)

  module _ (v : Verdicts) where
    by_rule : (r : Rule) (rs : List Rule) (s : Bool) → is_of_sealing r ≡ s → ((AllByRecursion (HoldsWritten v (a ∷ c) b) rs → AllByRecursion (HoldsWritten v (a ∷ c) fewer) rs))
        → AllByRecursion (HoldsWritten v (a ∷ c) b) (cond (not s) (r ∷ rs) rs) → AllByRecursion (HoldsWritten v (a ∷ c) fewer) (cond (not s) (r ∷ rs) rs)
    by_rule r rs true e rest h = rest h
    by_rule r rs false e rest h = (hold_fewer v a c b (flat_map transactions_of docs) (flat_map transactions_of more) cut as_long r e h.0, rest h.1)

    all_fewer : (rs : List Rule) → AllByRecursion (HoldsWritten v (a ∷ c) b) (filter (λ r. not (is_of_sealing r)) rs) → AllByRecursion (HoldsWritten v (a ∷ c) fewer) (filter (λ r. not (is_of_sealing r)) rs)
    all_fewer [] h = tt
    all_fewer (r ∷ rs) h = by_rule r (filter (λ r. not (is_of_sealing r)) rs) (is_of_sealing r) refl (all_fewer rs) h

    fewer_bad : FirstBad v (a ∷ c) b None → FirstBad v (a ∷ c) fewer None
    fewer_bad h = all_fewer table_rules h

by_chain : (v : Verdicts) (c : Chain) (issuer : Text) (time : ℕ) (docs more : List Doc) → AllByRecursion IsTransaction more
    → (b : Block) → IsDraftOf c issuer time (docs ++ more) b → FirstBad v c b None → (d : Block) × IsDraftOf c issuer time docs d × FirstBad v c d None
by_chain v [] issuer time docs more all b is bad = absurd is.behind
by_chain v (a ∷ c) issuer time docs more all b is bad = (fewer a c issuer time docs more all b is, fewer_is a c issuer time docs more all b is, fewer_bad a c issuer time docs more all b is v bad)

pub tried_fewer : FewerTransactionsFit
tried_fewer f docs more all h =
    let t = by_chain f.verdicts f.chain f.issuer f.time docs more all h.draft h.is h.bad in
    record { draft = t.0; is = t.1; bad = t.2 }
