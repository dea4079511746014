-- The loop that takes what is due: its invariant holds behind the lines, stays with each entry, and gives the tables in the end.
use Rattle.std.proofs.Common.{◌≡◌, ◌↔◌, ℕ, ◌+◌, ◌*◌, Bool, true, false, cond, not, ◌||◌, ◌&&◌, ◌==◌, [], ◌∷◌, Option, Some, None, option_map, refl, ap, sym, ◌∙◌, subst, true≢false, nat_le, nat_lt, inl, inr, ◌⊎◌}
use Rattle.std.specs.Option.{option_map_or}
use Rattle.std.proofs.lemmas.Bool.Decides.{Decides-eqb}
use Rattle.dubp_atoms.specs.Same.{Text, same_text}
use Rattle.dubp_block.specs.declared.block.Block.{Block}
use Rattle.dubp_block.specs.declared.block.MemberLine.{MemberLine}
use Rattle.dubp_block.specs.declared.block.CertLine.{CertLine}
use Rattle.dubp_chain.specs.Words.{last_of}
use Rattle.dubp_chain.specs.Chains.{Chain, params}
use Rattle.dubp_chain.specs.Members.{is_of}
use Rattle.dubp_chain.specs.Heads.{time_of}
use Rattle.dubp_chain.specs.People.{expired}
use Rattle.dubp_chain.specs.Live.{live}
use Rattle.dubp_validity.specs.Records.{membership_time}
use Rattle.dubp_chain.specs.Tables.{MembershipRow, membership_row, CertificationRow, certification_row, Due, is_queued}
use Rattle.dubp_chain.specs.Tables.Due.{Membership, Revocation, Certification}
use Rattle.dubp_validity.specs.Reduced.{set_ended}
use Rattle.dubp_validity.specs.Rules.{IsSound}
use Rattle.dubp_lists.proofs.Elements.{and_left, and_right, and_false, or_true, is_false}
use Rattle.dubp_lists.proofs.InOrder.{same_text_is}
use Rattle.dubp_steps.specs.AfterLines.{now_of, lasting, cert_lasting, of_pair, certification_time, set_revoked, certified_row, is_planned, queue_after_lines, membership_after_lines, certification_after_lines}
use Rattle.dubp_steps.specs.Taken.{is_taken, IsTaken, revoke_where, end_where, is_over_at_once, is_revoked_at_once, is_ended_at_once}
use Rattle.dubp_steps.specs.Loops.{Queue, same_due, is_entry, without_entry, is_gone, IsGone, revoked_where_gone, ended_where_gone, TakingStarts, TakingGoesOn, TakingEnds}
use Rattle.dubp_steps.proofs.Standing.{last_entered}
use Rattle.dubp_steps.proofs.Planned.{not_le, same_number}
use Rattle.dubp_steps.proofs.Sections.{has_revoked, revoke_if, leave_by, enter_by, membership_after_lines-is, certification_after_lines-is, planned_expiry, planned_revocation, planned_end, queue_membership, queue_revocation, queue_certification}
use Rattle.dubp_steps.proofs.Queue.{queue_step}
use Rattle.dubp_steps.proofs.Fits.{queue_fits_rows, certifications_fit}
use Rattle.dubp_steps.proofs.Ends.{planned_untaken}
use Rattle.dubp_steps.proofs.Rows.{membership_step, certification_step}

pub same_due_is : (d e : Due) → same_due d e ≡ true → d ≡ e
same_due_is (Membership k) (Membership l) e = ap Membership (same_text_is k l e)
same_due_is (Revocation k) (Revocation l) e = ap Revocation (same_text_is k l e)
same_due_is (Certification x y) (Certification z w) e =
    λ i. Certification (same_text_is x z (and_left (same_text x z) (same_text y w) e) i) (same_text_is y w (and_right (same_text x z) (same_text y w) e) i)
same_due_is (Membership k) (Revocation l) e = absurd (true≢false (sym e))
same_due_is (Membership k) (Certification z w) e = absurd (true≢false (sym e))
same_due_is (Revocation k) (Membership l) e = absurd (true≢false (sym e))
same_due_is (Revocation k) (Certification z w) e = absurd (true≢false (sym e))
same_due_is (Certification x y) (Membership l) e = absurd (true≢false (sym e))
same_due_is (Certification x y) (Revocation l) e = absurd (true≢false (sym e))

never : {X : Type 0} → false ≡ true → X
never e = absurd (true≢false (sym e))

-- the invariant behind the lines

nothing_gone : (c : Chain) (b : Block) (at : ℕ) (due : Due) → is_gone c b (queue_after_lines c b) at due ≡ false
nothing_gone c b at due = by (queue_after_lines c b at due)
  where
    by : (x : Bool) → (x && not x) ≡ false
    by true = refl
    by false = refl

pub taking_starts : TakingStarts
taking_starts c b =
    record {
      stood = λ at due e. e;
      reached = λ at due e. never (sym (nothing_gone c b at due) ∙ e);
      memberships = λ k. memberships k (membership_after_lines c b k (membership_row c k));
      certifications = λ x y. certifications x y (certification_after_lines c b x y (certification_row c x y));
      over = λ k. (λ e. inl e, λ p. elim p [ inl e ↦ e | inr gone ↦ never (sym (nothing_gone c b gone.0 (Membership k)) ∙ gone.1) ]);
      revoked = λ k. (λ e. inl e, λ p. elim p [ inl e ↦ e | inr gone ↦ never (sym (nothing_gone c b gone.0 (Revocation k)) ∙ gone.1) ]);
      ended = λ x y. (λ e. inl e, λ p. elim p [ inl e ↦ e | inr gone ↦ never (sym (nothing_gone c b gone.0 (Certification x y)) ∙ gone.1) ]);
    }
  where
    or_none : (x : Bool) → x ≡ (x || false)
    or_none true = refl
    or_none false = refl

    and_all : (x : Bool) → x ≡ (x && not false)
    and_all true = refl
    and_all false = refl

    memberships : (k : Text) (row : Option MembershipRow) → row ≡ option_map (revoked_where_gone c b (queue_after_lines c b) k) row
    memberships k None = refl
    memberships k (Some r) =
        ap (λ is. Some (revoke_is r is)) (or_none r.is_revoked ∙ ap (λ g. r.is_revoked || g) (sym (nothing_gone c b (r.made + 2 * lasting c b) (Revocation k))))
      where
        revoke_is : MembershipRow → Bool → MembershipRow
        revoke_is r is = record r { is_revoked = is }

    certifications : (x y : Text) (row : Option CertificationRow) → row ≡ option_map (ended_where_gone c b (queue_after_lines c b) x y) row
    certifications x y None = refl
    certifications x y (Some r) =
        ap (λ is. Some (live_is r is)) (and_all r.is_live ∙ ap (λ g. r.is_live && not g) (sym (nothing_gone c b (r.made + cert_lasting c b) (Certification x y))))
      where
        live_is : CertificationRow → Bool → CertificationRow
        live_is r is = record r { is_live = is }

-- what stands behind the lines stands at the ends of the rows there

-- a row keeps when it was made, whatever a line of Leavers or of Revoked makes of it
kept_made : (b : Block) (by_line : Bool) (leaver : Option MemberLine) (test : ℕ → Bool) (row : Option MembershipRow)
    → option_map_or (λ (row : MembershipRow). test row.made) row false ≡ option_map_or (λ (row : MembershipRow). test row.made) (revoke_if by_line (leave_by b leaver row)) false
kept_made b true None test None = refl
kept_made b false None test None = refl
kept_made b true (Some l) test None = refl
kept_made b false (Some l) test None = refl
kept_made b true None test (Some r) = refl
kept_made b false None test (Some r) = refl
kept_made b true (Some l) test (Some r) = refl
kept_made b false (Some l) test (Some r) = refl

-- the row of the chain stands there
pub old_expiry : (c : Chain) (b : Block) → IsSound c → (k : Text) (at : ℕ) → is_queued c at (Membership k) ≡ true
    → option_map_or (λ (row : MembershipRow). row.made + lasting c b == at) (membership_row c k) false ≡ true
old_expiry [] b sound k at e = never e
old_expiry (a ∷ c) b sound k at e = by (membership_row (a ∷ c) k) (sym ((queue_fits_rows (a ∷ c) sound).memberships at k) ∙ e)
  where
    by : (row : Option MembershipRow) → option_map_or (λ (row : MembershipRow). is_planned (time_of (a ∷ c)) (row.made + (params (a ∷ c)).ms_validity) at) row false ≡ true
        → option_map_or (λ (row : MembershipRow). row.made + (params (a ∷ c)).ms_validity == at) row false ≡ true
    by None e = e
    by (Some r) e = and_right (nat_lt (time_of (a ∷ c)) (r.made + (params (a ∷ c)).ms_validity)) _ e

pub old_revocation : (c : Chain) (b : Block) → IsSound c → (k : Text) (at : ℕ) → is_queued c at (Revocation k) ≡ true
    → option_map_or (λ (row : MembershipRow). row.made + 2 * lasting c b == at) (membership_row c k) false ≡ true
old_revocation [] b sound k at e = never e
old_revocation (a ∷ c) b sound k at e = by (membership_row (a ∷ c) k) (sym ((queue_fits_rows (a ∷ c) sound).revocations at k) ∙ e)
  where
    by : (row : Option MembershipRow) → option_map_or (λ (row : MembershipRow). not row.is_revoked && row.made + 2 * (params (a ∷ c)).ms_validity == at) row false ≡ true
        → option_map_or (λ (row : MembershipRow). row.made + 2 * (params (a ∷ c)).ms_validity == at) row false ≡ true
    by None e = e
    by (Some r) e = and_right (not r.is_revoked) _ e

pub old_end : (c : Chain) (b : Block) (x y : Text) (at : ℕ) → is_queued c at (Certification x y) ≡ true
    → option_map_or (λ (row : CertificationRow). row.made + cert_lasting c b == at) (certification_row c x y) false ≡ true
old_end [] b x y at e = never e
old_end (a ∷ c) b x y at e = by (certification_row (a ∷ c) x y) (sym (certifications_fit (a ∷ c) at x y) ∙ e)
  where
    by : (row : Option CertificationRow) → option_map_or (λ (row : CertificationRow). row.is_live && row.made + (params (a ∷ c)).sig_validity == at) row false ≡ true
        → option_map_or (λ (row : CertificationRow). row.made + (params (a ∷ c)).sig_validity == at) row false ≡ true
    by None e = e
    by (Some r) e = and_right r.is_live _ e

pub planned_end_is : (now end at : ℕ) → is_planned now end at ≡ true → (end == at) ≡ true
planned_end_is now end at e = and_right (nat_lt now end) (end == at) e

revocation_ends : (c : Chain) (b : Block) → IsSound c → (k : Text) (at : ℕ) → queue_after_lines c b at (Revocation k) ≡ true
    → option_map_or (λ (row : MembershipRow). row.made + 2 * lasting c b == at) (membership_after_lines c b k (membership_row c k)) false ≡ true
revocation_ends c b sound k at e =
    ap (λ row. option_map_or (λ (row : MembershipRow). row.made + 2 * lasting c b == at) row false) (membership_after_lines-is c b k (membership_row c k))
    ∙ sym (kept_made b (has_revoked b k) (last_of (is_of k) b.leavers) (λ made. made + 2 * lasting c b == at) (enter_by c b (last_entered b k) (membership_row c k)))
    ∙ by (has_revoked b k) (last_entered b k) (sym (queue_revocation c b at k) ∙ e)
  where
    by : (has : Bool) (last : Option MemberLine) → cond has false (option_map_or (planned_revocation c b at) last (is_queued c at (Revocation k))) ≡ true
        → option_map_or (λ (row : MembershipRow). row.made + 2 * lasting c b == at) (enter_by c b last (membership_row c k)) false ≡ true
    by true last e = never e
    by false None e = old_revocation c b sound k at e
    by false (Some line) e = planned_end_is (now_of c b) (membership_time c b line + 2 * lasting c b) at e

expiry_ends : (c : Chain) (b : Block) → IsSound c → (k : Text) (at : ℕ) → queue_after_lines c b at (Membership k) ≡ true
    → option_map_or (λ (row : MembershipRow). row.made + lasting c b == at) (membership_after_lines c b k (membership_row c k)) false ≡ true
expiry_ends c b sound k at e =
    ap (λ row. option_map_or (λ (row : MembershipRow). row.made + lasting c b == at) row false) (membership_after_lines-is c b k (membership_row c k))
    ∙ sym (kept_made b (has_revoked b k) (last_of (is_of k) b.leavers) (λ made. made + lasting c b == at) (enter_by c b (last_entered b k) (membership_row c k)))
    ∙ by (last_entered b k) (sym (queue_membership c b at k) ∙ e)
  where
    by : (last : Option MemberLine) → option_map_or (planned_expiry c b at) last (is_queued c at (Membership k)) ≡ true
        → option_map_or (λ (row : MembershipRow). row.made + lasting c b == at) (enter_by c b last (membership_row c k)) false ≡ true
    by None e = old_expiry c b sound k at e
    by (Some line) e = planned_end_is (now_of c b) (membership_time c b line + lasting c b) at e

end_ends : (c : Chain) (b : Block) (x y : Text) (at : ℕ) → queue_after_lines c b at (Certification x y) ≡ true
    → option_map_or (λ (row : CertificationRow). row.made + cert_lasting c b == at) (certification_after_lines c b x y (certification_row c x y)) false ≡ true
end_ends c b x y at e =
    ap (λ row. option_map_or (λ (row : CertificationRow). row.made + cert_lasting c b == at) row false) (certification_after_lines-is c b x y (certification_row c x y))
    ∙ by (last_of (of_pair x y) b.certifications) (sym (queue_certification c b at x y) ∙ e)
  where
    by : (last : Option CertLine) → option_map_or (planned_end c b at) last (is_queued c at (Certification x y)) ≡ true
        → option_map_or (λ (row : CertificationRow). row.made + cert_lasting c b == at) (option_map_or (λ line. Some (certified_row c b line)) last (certification_row c x y)) false ≡ true
    by None e = old_end c b x y at e
    by (Some line) e = planned_end_is (now_of c b) (certification_time c b line + cert_lasting c b) at e

-- so an entry of a due stands at one time
same_time : {Row : Type 0} (end : Row → ℕ) (row : Option Row) (s t : ℕ) → option_map_or (λ r. end r == s) row false ≡ true → option_map_or (λ r. end r == t) row false ≡ true → s ≡ t
same_time end None s t e f = never e
same_time end (Some r) s t e f = sym ((Decides-eqb (end r) s).0 e) ∙ (Decides-eqb (end r) t).0 f

one_time : (c : Chain) (b : Block) → IsSound c → (due : Due) (s t : ℕ) → queue_after_lines c b s due ≡ true → queue_after_lines c b t due ≡ true → s ≡ t
one_time c b sound (Membership k) s t e f =
    same_time (λ (row : MembershipRow). row.made + lasting c b) (membership_after_lines c b k (membership_row c k)) s t (expiry_ends c b sound k s e) (expiry_ends c b sound k t f)
one_time c b sound (Revocation k) s t e f =
    same_time (λ (row : MembershipRow). row.made + 2 * lasting c b) (membership_after_lines c b k (membership_row c k)) s t (revocation_ends c b sound k s e) (revocation_ends c b sound k t f)
one_time c b sound (Certification x y) s t e f =
    same_time (λ (row : CertificationRow). row.made + cert_lasting c b) (certification_after_lines c b x y (certification_row c x y)) s t (end_ends c b x y s e) (end_ends c b x y t f)

-- what is at an end at once has no entry that is due
abbrev is_at_once : Chain → Block → Due → Bool
is_at_once c b (Membership k) = is_over_at_once c b k
is_at_once c b (Revocation k) = is_revoked_at_once c b k
is_at_once c b (Certification x y) = is_ended_at_once c b x y

at_once_not_due : (c : Chain) (b : Block) (at : ℕ) (due : Due) → is_at_once c b due ≡ true → queue_after_lines c b at due ≡ true → nat_le at (now_of c b) ≡ true → ⊥
at_once_not_due c b at (Membership k) once stands reached = by (last_entered b k) once (sym (queue_membership c b at k) ∙ stands)
  where
    by : (last : Option MemberLine) → option_map_or (λ line. nat_le (membership_time c b line + lasting c b) (now_of c b) && not (expired c k)) last false ≡ true
        → option_map_or (planned_expiry c b at) last (is_queued c at (Membership k)) ≡ true → ⊥
    by None once stands = never once
    by (Some line) once stands = planned_untaken (now_of c b) (membership_time c b line + lasting c b) at (rw (stands, reached) refl)
at_once_not_due c b at (Revocation k) once stands reached = by (has_revoked b k) (last_entered b k) once (sym (queue_revocation c b at k) ∙ stands)
  where
    by : (has : Bool) (last : Option MemberLine) → option_map_or (λ line. nat_le (membership_time c b line + 2 * lasting c b) (now_of c b)) last false ≡ true
        → cond has false (option_map_or (planned_revocation c b at) last (is_queued c at (Revocation k))) ≡ true → ⊥
    by true last once stands = never stands
    by false None once stands = never once
    by false (Some line) once stands = planned_untaken (now_of c b) (membership_time c b line + 2 * lasting c b) at (rw (stands, reached) refl)
at_once_not_due c b at (Certification x y) once stands reached = by (last_of (of_pair x y) b.certifications) once (sym (queue_certification c b at x y) ∙ stands)
  where
    by : (last : Option CertLine) → option_map_or (λ line. nat_le (certification_time c b line + cert_lasting c b) (now_of c b) && live c x y) last false ≡ true
        → option_map_or (planned_end c b at) last (is_queued c at (Certification x y)) ≡ true → ⊥
    by None once stands = never once
    by (Some line) once stands = planned_untaken (now_of c b) (certification_time c b line + cert_lasting c b) at (rw (stands, reached) refl)

-- one entry more is gone

module _ (c : Chain) (b : Block) (q : Queue) (stood : (at : ℕ) (due : Due) → q at due ≡ true → queue_after_lines c b at due ≡ true)
    (time : ℕ) (entry' : Due) (there : q time entry' ≡ true) where
  gone_more : (at : ℕ) (due : Due) → is_gone c b (without_entry time entry' q) at due ≡ (is_entry time entry' at due || is_gone c b q at due)
  gone_more at due =
      elim (is_entry time entry' at due) as (λ r. is_entry time entry' at due ≡ r → (queue_after_lines c b at due && not (not r && q at due)) ≡ (r || is_gone c b q at due)) [
        | true ↦ λ e.
            let t = sym ((Decides-eqb time at).0 (and_left (time == at) (same_due due entry') e)) in
            let d = same_due_is due entry' (and_right (time == at) (same_due due entry') e) in
            let stands : queue_after_lines c b at due ≡ true = (λ i. queue_after_lines c b (t i) (d i)) ∙ stood time entry' there in
            ap (λ x. x && true) stands
        | false ↦ λ _. refl
      ] refl

  gone_still : (at : ℕ) (due : Due) → is_gone c b q at due ≡ true → is_gone c b (without_entry time entry' q) at due ≡ true
  gone_still at due e = gone_more at due ∙ or_true _ _ (inr e)

  -- of other dues nothing more is gone
  gone_other : (at : ℕ) (due : Due) → same_due due entry' ≡ false → is_gone c b q at due ≡ is_gone c b (without_entry time entry' q) at due
  gone_other at due e = sym (gone_more at due ∙ ap (λ r. r || is_gone c b q at due) (and_false (time == at) (same_due due entry') e))

  -- what is gone of a due: as before, or this entry
  gone_or : (at : ℕ) (due : Due) → is_gone c b (without_entry time entry' q) at due ≡ true → (is_gone c b q at due ≡ true) ⊎ (same_due due entry' ≡ true)
  gone_or at due e =
      elim (is_entry time entry' at due) as (λ r. is_entry time entry' at due ≡ r → (r || is_gone c b q at due) ≡ true → (is_gone c b q at due ≡ true) ⊎ (same_due due entry' ≡ true)) [
        | true ↦ λ is _. inr (and_right (time == at) (same_due due entry') is)
        | false ↦ λ _ gone. inl gone
      ] refl (sym (gone_more at due) ∙ e)

  -- a due of this entry has something gone
  gone_now : (due : Due) → same_due due entry' ≡ true → is_gone c b (without_entry time entry' q) time due ≡ true
  gone_now due e =
      let here : is_entry time entry' time due ≡ true = rw (e, same_number time) refl in
      gone_more time due ∙ or_true (is_entry time entry' time due) (is_gone c b q time due) (inl here)

  stood_still : (at : ℕ) (due : Due) → without_entry time entry' q at due ≡ true → queue_after_lines c b at due ≡ true
  stood_still at due e = stood at due (and_right (not (is_entry time entry' at due)) (q at due) e)

  reached_still : nat_le time (now_of c b) ≡ true → ((at : ℕ) (due : Due) → is_gone c b q at due ≡ true → nat_le at (now_of c b) ≡ true)
      → (at : ℕ) (due : Due) → is_gone c b (without_entry time entry' q) at due ≡ true → nat_le at (now_of c b) ≡ true
  reached_still now before at due e =
      elim (is_entry time entry' at due) as (λ r. is_entry time entry' at due ≡ r → (r || is_gone c b q at due) ≡ true → nat_le at (now_of c b) ≡ true) [
        | true ↦ λ is _. subst (λ t. nat_le t (now_of c b) ≡ true) ((Decides-eqb time at).0 (and_left (time == at) (same_due due entry') is)) now
        | false ↦ λ _ gone. before at due gone
      ] refl (sym (gone_more at due) ∙ e)

  -- a set that notes dues of another kind, and the set of this one
  other_set : (due : Due) (once noted : Bool) → same_due due entry' ≡ false → (noted ≡ true) ↔ ((once ≡ true) ⊎ IsGone c b q due) → (noted ≡ true) ↔ ((once ≡ true) ⊎ IsGone c b (without_entry time entry' q) due)
  other_set due once noted other set = (
    λ e. elim (set.0 e) [ inl o ↦ inl o | inr g ↦ inr (g.0, gone_still g.0 due g.1) ],
    λ p. elim p [ inl o ↦ set.1 (inl o) | inr g ↦ set.1 (inr (g.0, gone_other g.0 due other ∙ g.1)) ],
  )

  this_set : (due : Due) (once noted : Bool) → (noted ≡ true) ↔ ((once ≡ true) ⊎ IsGone c b q due)
      → ((same_due due entry' || noted) ≡ true) ↔ ((once ≡ true) ⊎ IsGone c b (without_entry time entry' q) due)
  this_set due once noted set = (there', back)
    where
      there' : (same_due due entry' || noted) ≡ true → (once ≡ true) ⊎ IsGone c b (without_entry time entry' q) due
      there' e =
          elim (same_due due entry') as (λ r. same_due due entry' ≡ r → (r || noted) ≡ true → (once ≡ true) ⊎ IsGone c b (without_entry time entry' q) due) [
            | true ↦ λ is _. inr (time, gone_now due is)
            | false ↦ λ _ n. elim (set.0 n) [ inl o ↦ inl o | inr g ↦ inr (g.0, gone_still g.0 due g.1) ]
          ] refl e

      back : (once ≡ true) ⊎ IsGone c b (without_entry time entry' q) due → (same_due due entry' || noted) ≡ true
      back p =
          elim p [
            | inl o ↦ or_true _ _ (inr (set.1 (inl o)))
            | inr g ↦ elim (gone_or g.0 due g.1) [ inl old ↦ or_true _ _ (inr (set.1 (inr (g.0, old)))) | inr is ↦ or_true _ _ (inl is) ]
          ]

  -- it was not noted before
  not_noted : IsSound c → nat_le time (now_of c b) ≡ true → (once noted : Bool) → once ≡ is_at_once c b entry' → (noted ≡ true) ↔ ((once ≡ true) ⊎ IsGone c b q entry') → noted ≡ false
  not_noted sound now once noted same set =
      is_false noted (λ e. elim (set.0 e) [
        | inl o ↦ at_once_not_due c b time entry' (sym same ∙ o) (stood time entry' there) now
        | inr g ↦
            let t = one_time c b sound entry' g.0 time (and_left (queue_after_lines c b g.0 entry') (not (q g.0 entry')) g.1) (stood time entry' there) in
            true≢false (sym (and_right (queue_after_lines c b g.0 entry') (not (q g.0 entry')) g.1) ∙ ap (λ x. not (q x entry')) t ∙ ap not there)
      ])

-- the rows of another kind, or of another key
other_row : {Row : Type 0} (f g : Row → Row) → ((row : Row) → f row ≡ g row) → (row : Option Row) (now : Option Row) → now ≡ option_map f row → now ≡ option_map g row
other_row f g same None now e = e
other_row f g same (Some r) now e = e ∙ ap Some (same r)

-- the row of a revocation that is taken
revoked_row : (taken : Bool) (gone' : Bool) → taken ≡ true → (row : MembershipRow) → set_revoked (revoke_where gone' row) ≡ revoke_where taken row
revoked_row taken gone' is row = ap (λ r. revoked_is r) (sym (or_true row.is_revoked taken (inr is)))
  where
    revoked_is : Bool → MembershipRow
    revoked_is r = record row { is_revoked = r }

ended_row : (taken : Bool) (gone' : Bool) → taken ≡ true → (row : CertificationRow) → set_ended (end_where gone' row) ≡ end_where taken row
ended_row taken gone' is row = ap (λ r. live_is r) (sym (and_false row.is_live (not taken) (ap not is)))
  where
    live_is : Bool → CertificationRow
    live_is r = record row { is_live = r }

both_false : (x y : Bool) → (x && y) ≡ false → (x ≡ false) ⊎ (y ≡ false)
both_false true y e = inr e
both_false false y e = inl refl

pub taking_goes_on : TakingGoesOn
taking_goes_on c b sound s is at (Membership k) there reached =
    let q = s.queue in
    let d = Membership k in (
      record {
        stood = stood_still c b q is.stood at d there;
        reached = reached_still c b q is.stood at d there reached is.reached;
        memberships = λ l. other_row (revoked_where_gone c b q l) (revoked_where_gone c b (without_entry at d q) l) (λ row. ap (λ g. revoke_where g row) (gone_other c b q is.stood at d there (row.made + 2 * lasting c b) (Revocation l) refl)) _ _ (is.memberships l);
        certifications = λ x y. other_row (ended_where_gone c b q x y) (ended_where_gone c b (without_entry at d q) x y) (λ row. ap (λ g. end_where g row) (gone_other c b q is.stood at d there (row.made + cert_lasting c b) (Certification x y) refl)) _ _ (is.certifications x y);
        over = λ l. this_set c b q is.stood at d there (Membership l) (is_over_at_once c b l) (s.over l) (is.over l);
        revoked = λ l. other_set c b q is.stood at d there (Revocation l) (is_revoked_at_once c b l) (s.revoked l) refl (is.revoked l);
        ended = λ x y. other_set c b q is.stood at d there (Certification x y) (is_ended_at_once c b x y) (s.ended x y) refl (is.ended x y);
      },
      not_noted c b q is.stood at d there sound.1 reached (is_over_at_once c b k) (s.over k) refl (is.over k),
    )
taking_goes_on c b sound s is at (Revocation k) there reached =
    let q = s.queue in
    let d = Revocation k in (
      record {
        stood = stood_still c b q is.stood at d there;
        reached = reached_still c b q is.stood at d there reached is.reached;
        memberships = λ l. rows l (membership_after_lines c b l (membership_row c l)) (is.memberships l) (λ time stands. revocation_ends c b sound.1 l time stands);
        certifications = λ x y. other_row (ended_where_gone c b q x y) (ended_where_gone c b (without_entry at d q) x y) (λ row. ap (λ g. end_where g row) (gone_other c b q is.stood at d there (row.made + cert_lasting c b) (Certification x y) refl)) _ _ (is.certifications x y);
        over = λ l. other_set c b q is.stood at d there (Membership l) (is_over_at_once c b l) (s.over l) refl (is.over l);
        revoked = λ l. this_set c b q is.stood at d there (Revocation l) (is_revoked_at_once c b l) (s.revoked l) (is.revoked l);
        ended = λ x y. other_set c b q is.stood at d there (Certification x y) (is_ended_at_once c b x y) (s.ended x y) refl (is.ended x y);
      },
      not_noted c b q is.stood at d there sound.1 reached (is_revoked_at_once c b k) (s.revoked k) refl (is.revoked k),
    )
  where
    -- the entry stands at the end of the row
    rows : (l : Text) (row : Option MembershipRow) → s.memberships l ≡ option_map (revoked_where_gone c b s.queue l) row
        → ((time : ℕ) → queue_after_lines c b time (Revocation l) ≡ true → option_map_or (λ (row : MembershipRow). row.made + 2 * lasting c b == time) row false ≡ true)
        → cond (same_text l k) (option_map set_revoked (s.memberships l)) (s.memberships l) ≡ option_map (revoked_where_gone c b (without_entry at (Revocation k) s.queue) l) row
    rows l row e ends =
        elim (same_text l k) as (λ r. same_text l k ≡ r → cond r (option_map set_revoked (s.memberships l)) (s.memberships l) ≡ option_map (revoked_where_gone c b (without_entry at (Revocation k) s.queue) l) row) [
          | false ↦ λ other. other_row (revoked_where_gone c b s.queue l) (revoked_where_gone c b (without_entry at (Revocation k) s.queue) l) (λ row. ap (λ g. revoke_where g row) (gone_other c b s.queue is.stood at (Revocation k) there (row.made + 2 * lasting c b) (Revocation l) other)) row _ e
          | true ↦ λ same. ap (option_map set_revoked) e ∙ by row (ends at ((λ i. queue_after_lines c b at (Revocation (same_text_is l k same i))) ∙ is.stood at (Revocation k) there)) same
        ] refl
      where
        by : (row : Option MembershipRow) → option_map_or (λ (row : MembershipRow). row.made + 2 * lasting c b == at) row false ≡ true → same_text l k ≡ true
            → option_map set_revoked (option_map (revoked_where_gone c b s.queue l) row) ≡ option_map (revoked_where_gone c b (without_entry at (Revocation k) s.queue) l) row
        by None end same = refl
        by (Some r) end same =
            let gone = (λ i. is_gone c b (without_entry at (Revocation k) s.queue) ((Decides-eqb (r.made + 2 * lasting c b) at).0 end i) (Revocation l)) ∙ gone_now c b s.queue is.stood at (Revocation k) there (Revocation l) same in
            ap Some (revoked_row (is_gone c b (without_entry at (Revocation k) s.queue) (r.made + 2 * lasting c b) (Revocation l)) (is_gone c b s.queue (r.made + 2 * lasting c b) (Revocation l)) gone r)
taking_goes_on c b sound s is at (Certification x y) there reached =
    let q = s.queue in
    let d = Certification x y in (
      record {
        stood = stood_still c b q is.stood at d there;
        reached = reached_still c b q is.stood at d there reached is.reached;
        memberships = λ l. other_row (revoked_where_gone c b q l) (revoked_where_gone c b (without_entry at d q) l) (λ row. ap (λ g. revoke_where g row) (gone_other c b q is.stood at d there (row.made + 2 * lasting c b) (Revocation l) refl)) _ _ (is.memberships l);
        certifications = λ z w. rows z w (certification_after_lines c b z w (certification_row c z w)) (is.certifications z w) (λ time stands. end_ends c b z w time stands);
        over = λ l. other_set c b q is.stood at d there (Membership l) (is_over_at_once c b l) (s.over l) refl (is.over l);
        revoked = λ l. other_set c b q is.stood at d there (Revocation l) (is_revoked_at_once c b l) (s.revoked l) refl (is.revoked l);
        ended = λ z w. this_set c b q is.stood at d there (Certification z w) (is_ended_at_once c b z w) (s.ended z w) (is.ended z w);
      },
      not_noted c b q is.stood at d there sound.1 reached (is_ended_at_once c b x y) (s.ended x y) refl (is.ended x y),
    )
  where
    rows : (z w : Text) (row : Option CertificationRow) → s.certifications z w ≡ option_map (ended_where_gone c b s.queue z w) row
        → ((time : ℕ) → queue_after_lines c b time (Certification z w) ≡ true → option_map_or (λ (row : CertificationRow). row.made + cert_lasting c b == time) row false ≡ true)
        → cond (same_text z x && same_text w y) (option_map set_ended (s.certifications z w)) (s.certifications z w) ≡ option_map (ended_where_gone c b (without_entry at (Certification x y) s.queue) z w) row
    rows z w row e ends =
        elim (same_text z x && same_text w y) as (λ r. (same_text z x && same_text w y) ≡ r → cond r (option_map set_ended (s.certifications z w)) (s.certifications z w) ≡ option_map (ended_where_gone c b (without_entry at (Certification x y) s.queue) z w) row) [
          | false ↦ λ other. other_row (ended_where_gone c b s.queue z w) (ended_where_gone c b (without_entry at (Certification x y) s.queue) z w) (λ row. ap (λ g. end_where g row) (gone_other c b s.queue is.stood at (Certification x y) there (row.made + cert_lasting c b) (Certification z w) other)) row _ e
          | true ↦ λ same. ap (option_map set_ended) e ∙ by row (ends at ((λ i. queue_after_lines c b at (same_due_is (Certification z w) (Certification x y) same i)) ∙ is.stood at (Certification x y) there)) same
        ] refl
      where
        by : (row : Option CertificationRow) → option_map_or (λ (row : CertificationRow). row.made + cert_lasting c b == at) row false ≡ true → (same_text z x && same_text w y) ≡ true
            → option_map set_ended (option_map (ended_where_gone c b s.queue z w) row) ≡ option_map (ended_where_gone c b (without_entry at (Certification x y) s.queue) z w) row
        by None end same = refl
        by (Some r) end same =
            let gone = (λ i. is_gone c b (without_entry at (Certification x y) s.queue) ((Decides-eqb (r.made + cert_lasting c b) at).0 end i) (Certification z w)) ∙ gone_now c b s.queue is.stood at (Certification x y) there (Certification z w) same in
            ap Some (ended_row (is_gone c b (without_entry at (Certification x y) s.queue) (r.made + cert_lasting c b) (Certification z w)) (is_gone c b s.queue (r.made + cert_lasting c b) (Certification z w)) gone r)

-- the end

pub taking_ends : TakingEnds
taking_ends c b sound s is no_more =
    record {
      queue = λ at due. queue at due (s.queue at due) (queue_after_lines c b at due) refl refl ∙ sym (queue_step c b sound at due);
      memberships = λ k. other_row (revoked_where_gone c b s.queue k) (revoked_by_time' k) (λ row. ap (λ g. revoke_where g row) (gone-is (row.made + 2 * lasting c b) (Revocation k))) _ _ (is.memberships k) ∙ sym (membership_step c b sound k);
      certifications = λ x y. other_row (ended_where_gone c b s.queue x y) (ended_by_time' x y) (λ row. ap (λ g. end_where g row) (gone-is (row.made + cert_lasting c b) (Certification x y))) _ _ (is.certifications x y) ∙ sym (certification_step c b x y);
      over = λ k. as_taken (Membership k) (is_over_at_once c b k) (s.over k) (is.over k);
      revoked = λ k. as_taken (Revocation k) (is_revoked_at_once c b k) (s.revoked k) (is.revoked k);
      ended = λ x y. as_taken (Certification x y) (is_ended_at_once c b x y) (s.ended x y) (is.ended x y);
    }
  where
    queue : (at : ℕ) (due : Due) (now stood : Bool) → s.queue at due ≡ now → queue_after_lines c b at due ≡ stood → now ≡ (stood && nat_lt (now_of c b) at)
    queue at due true true e f = sym (sym (not_le at (now_of c b)) ∙ ap not (no_more at due e))
    queue at due true false e f = never (sym f ∙ is.stood at due e)
    queue at due false true e f = sym (sym (not_le at (now_of c b)) ∙ ap not (is.reached at due ((λ i. f i && not (e i)))))
    queue at due false false e f = refl

    gone-is : (at : ℕ) (due : Due) → is_gone c b s.queue at due ≡ is_taken c b at due
    gone-is at due = by (s.queue at due) (queue_after_lines c b at due) refl refl
      where
        by : (now stood : Bool) → s.queue at due ≡ now → queue_after_lines c b at due ≡ stood → (stood && not now) ≡ (stood && nat_le at (now_of c b))
        by true true e f = sym (no_more at due e)
        by true false e f = refl
        by false true e f = sym (is.reached at due ((λ i. f i && not (e i))))
        by false false e f = refl

    revoked_by_time' : Text → MembershipRow → MembershipRow
    revoked_by_time' k row = revoke_where (is_taken c b (row.made + 2 * lasting c b) (Revocation k)) row

    ended_by_time' : Text → Text → CertificationRow → CertificationRow
    ended_by_time' x y row = end_where (is_taken c b (row.made + cert_lasting c b) (Certification x y)) row

    as_taken : (due : Due) (once noted : Bool) → (noted ≡ true) ↔ ((once ≡ true) ⊎ IsGone c b s.queue due) → (noted ≡ true) ↔ ((once ≡ true) ⊎ IsTaken c b due)
    as_taken due once noted set = (
      λ e. elim (set.0 e) [ inl o ↦ inl o | inr g ↦ inr (g.0, sym (gone-is g.0 due) ∙ g.1) ],
      λ p. elim p [ inl o ↦ set.1 (inl o) | inr g ↦ set.1 (inr (g.0, gone-is g.0 due ∙ g.1)) ],
    )
