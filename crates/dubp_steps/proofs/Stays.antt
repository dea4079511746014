-- The rows of keys and pairs that nothing names.
use Rattle.std.proofs.Common.{◌≡◌, ◌+◌, ◌*◌, Bool, true, false, not, ◌||◌, ◌&&◌, List, Option, Some, None, option_map, is_some, refl, ap, sym, ◌∙◌, true≢false}
use Rattle.std.specs.Option.{option_or, option_map_or}
use Rattle.std.specs.List.{list_any}
use Rattle.dubp_atoms.specs.Same.{same_text}
use Rattle.dubp_block.specs.declared.block.IdentityLine.{IdentityLine}
use Rattle.dubp_block.specs.declared.block.MemberLine.{MemberLine}
use Rattle.dubp_chain.specs.Words.{last_of}
use Rattle.dubp_chain.specs.Members.{is_of}
use Rattle.dubp_chain.specs.People.{membership_lines}
use Rattle.dubp_chain.specs.Tables.{identity_row, MembershipRow, membership_row, CertificationRow, certification_row}
use Rattle.dubp_chain.specs.Tables.Due.{Revocation, Certification}
use Rattle.dubp_lists.proofs.Elements.{is_false}
use Rattle.dubp_lists.proofs.LastLines.{last_any}
use Rattle.dubp_steps.specs.AfterLines.{lasting, cert_lasting, of_pair, created, certified_row}
use Rattle.dubp_steps.specs.Taken.{is_taken, revoked_by_time, ended_by_time}
use Rattle.dubp_steps.specs.Steps.{IdentityStays, MembershipStays, CertificationStays}
use Rattle.dubp_steps.proofs.Standing.{last_entered, last_moved}
use Rattle.dubp_steps.proofs.Sections.{member_if, identity_after_lines-is, revoke_if, leave_by, enter_by, membership_after_lines-is, certification_after_lines-is}
use Rattle.dubp_steps.proofs.Rows.{identity_step, membership_step, certification_step}

no_last : {X : Type 0} (test : X → Bool) (xs : List X) → list_any test xs ≡ false → last_of test xs ≡ None
no_last test xs e = by (last_of test xs) (last_any test xs ∙ e)
  where
    by : {X : Type 0} (o : Option X) → is_some o ≡ false → o ≡ None
    by None e = refl
    by (Some x) e = absurd (true≢false e)

pub identity_stays : IdentityStays
identity_stays c b sound k created' joins out =
    identity_step c b sound k
    ∙ identity_after_lines-is b k (identity_row c k)
    ∙ (λ i. member_if (out i) false (member_if (joins i) true (option_map_or (λ line. Some (created b.number line)) (no_last (λ (line : IdentityLine). same_text k line.key) b.identities created' i) (identity_row c k))))

pub membership_stays : MembershipStays
membership_stays c b sound k moves revoked untaken =
    membership_step c b sound k
    ∙ ap (option_map (revoked_by_time c b k))
    (membership_after_lines-is c b k (membership_row c k)
    ∙ (λ i. revoke_if (revoked i) (leave_by b (none.0 i) (enter_by c b (none.1 i) (membership_row c k)))))
    ∙ by_row (membership_row c k)
  where
    neither : (leaver comer : Option MemberLine) → option_or leaver comer ≡ None → (leaver ≡ None) × (comer ≡ None)
    neither None comer e = (refl, e)
    neither (Some l) comer e = absurd (true≢false (ap is_some e))

    none : (last_of (is_of k) b.leavers ≡ None) × (last_entered b k ≡ None)
    none = neither _ _ (sym (last_moved b k) ∙ no_last (is_of k) (membership_lines b) moves)

    whole : (r : Bool) → (r || false) ≡ r
    whole true = refl
    whole false = refl

    revoked_is : MembershipRow → Bool → MembershipRow
    revoked_is r is = record r { is_revoked = is }

    by_row : (row : Option MembershipRow) → option_map (revoked_by_time c b k) row ≡ row
    by_row None = refl
    by_row (Some r) =
        ap (λ is. Some (revoked_is r is))
        (ap (λ taken. r.is_revoked || taken) (is_false (is_taken c b (r.made + 2 * lasting c b) (Revocation k)) (λ e. untaken (r.made + 2 * lasting c b, e))) ∙ whole r.is_revoked)

pub certification_stays : CertificationStays
certification_stays c b x y none untaken =
    certification_step c b x y
    ∙ ap (option_map (ended_by_time c b x y))
    (certification_after_lines-is c b x y (certification_row c x y) ∙ ap (λ last. option_map_or (λ line. Some (certified_row c b line)) last (certification_row c x y)) (no_last (of_pair x y) b.certifications none))
    ∙ by_row (certification_row c x y)
  where
    whole : (l : Bool) → (l && not false) ≡ l
    whole true = refl
    whole false = refl

    live_is : CertificationRow → Bool → CertificationRow
    live_is r is = record r { is_live = is }

    by_row : (row : Option CertificationRow) → option_map (ended_by_time c b x y) row ≡ row
    by_row None = refl
    by_row (Some r) =
        ap (λ is. Some (live_is r is))
        (ap (λ taken. r.is_live && not taken) (is_false (is_taken c b (r.made + cert_lasting c b) (Certification x y)) (λ e. untaken (r.made + cert_lasting c b, e))) ∙ whole r.is_live)
