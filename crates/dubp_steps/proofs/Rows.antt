-- The rows with one block more.
use Rattle.std.proofs.Common.{◌≡◌, ℕ, ◌+◌, ◌*◌, Bool, true, false, cond, not, ◌||◌, ◌&&◌, ◌∷◌, Option, Some, None, option_map, is_some, unwrap_or, refl, ap, sym, ◌∙◌, subst, true≢false, nat_le, nat_lt}
use Rattle.std.specs.Option.{option_or, option_map_or}
use Rattle.std.specs.List.{list_any}
use Rattle.dubp_atoms.specs.Same.{Text, same_text}
use Rattle.dubp_block.specs.declared.block.Block.{Block}
use Rattle.dubp_block.specs.declared.block.IdentityLine.{IdentityLine}
use Rattle.dubp_block.specs.declared.block.MemberLine.{MemberLine}
use Rattle.dubp_block.specs.declared.block.CertLine.{CertLine}
use Rattle.dubp_rules.specs.declared.rule.Rule.TheVariants.{L10, G77, G80}
use Rattle.dubp_chain.specs.Words.{names, last_of}
use Rattle.dubp_chain.specs.Chains.{Chain, params}
use Rattle.dubp_chain.specs.Members.{is_of, member}
use Rattle.dubp_chain.specs.Heads.{time_of}
use Rattle.dubp_chain.specs.Made.{made}
use Rattle.dubp_chain.specs.People.{Written, written_in, identity, membership, leaving, revoked_by_line, revoked, is_reached}
use Rattle.dubp_chain.specs.Live.{certification, made_of}
use Rattle.dubp_validity.specs.LocalRules.{joins, IdentitiesJoin}
use Rattle.dubp_validity.specs.Records.{membership_time}
use Rattle.dubp_chain.specs.Tables.{IdentityRow, identity_row, MembershipRow, membership_row, CertificationRow, certification_row, is_queued}
use Rattle.dubp_chain.specs.Tables.Due.{Revocation, Certification}
use Rattle.dubp_validity.specs.Rules.{IsSound}
use Rattle.dubp_lists.proofs.Elements.{and_left, or_left, in_all, in_any, any_in, last_in}
use Rattle.dubp_lists.proofs.InOrder.{same_text_is}
use Rattle.dubp_lists.proofs.LastLines.{last_any, time_of-rises}
use Rattle.dubp_steps.specs.AfterLines.{now_of, lasting, cert_lasting, entering_lines, of_pair, certification_time, created, entered_row, left_row, certified_row, is_planned, queue_after_lines}
use Rattle.dubp_steps.specs.Taken.{is_taken, revoke_where, revoked_by_time, ended_by_time}
use Rattle.dubp_steps.specs.Steps.{IdentityStep, MembershipStep, CertificationStep}
use Rattle.dubp_steps.proofs.Standing.{last_entered, entry, some_membership, last_moved, member_has_entry}
use Rattle.dubp_steps.proofs.Planned.{not_le, le_later, lt_earlier, planned_not_taken, planned_taken, planned_at_end}
use Rattle.dubp_steps.proofs.Sections.{has_revoked, member_if, identity_after_lines-is, revoke_if, leave_by, enter_by, membership_after_lines-is, certification_after_lines-is, planned_revocation, planned_end, queue_revocation, queue_certification}
use Rattle.dubp_steps.proofs.Queue.{made_at, queued_revocation, queued_certification, same_params, same_params_certified, entering_is_not_revoked}

-- identities

abbrev of_key : Text → IdentityLine → Bool
of_key k line = same_text k line.key

-- whom a block gives an identity joins in it
joined : (b : Block) → IdentitiesJoin b → (k : Text) (line : IdentityLine) → last_of (of_key k) b.identities ≡ Some line → list_any (is_of k) b.joiners ≡ true
joined b join k line is =
    let last = last_in (of_key k) b.identities line is in
    let joiner = any_in (joins line) b.joiners (in_all _ b.identities join line last.0) in
    in_any (is_of k) b.joiners joiner.0 joiner.1
    (subst (λ key. same_text key joiner.0.key ≡ true) (sym (same_text_is k line.key last.1)) (and_left (same_text line.key joiner.0.key) _ joiner.2))

abbrev pub identity_with : Bool → Written IdentityLine → IdentityRow
identity_with is w = record { uid = w.line.uid; stamp = w.line.stamp; sig = w.line.sig; written = w.block.number; is_member = is }

identity_cases : (b : Block) (c : Chain) (out inside m : Bool) (line : Option IdentityLine) (before : Option (Written IdentityLine))
    → ((l : IdentityLine) → line ≡ Some l → inside ≡ true)
    → option_map (identity_with (cond out false (cond inside true m))) (option_or (option_map (written_in b c) line) before)
    ≡ member_if out false (member_if inside true (option_map_or (λ l. Some (created b.number l)) line (option_map (identity_with m) before)))
identity_cases b c true true m None None enters = refl
identity_cases b c true false m None None enters = refl
identity_cases b c false true m None None enters = refl
identity_cases b c false false m None None enters = refl
identity_cases b c true true m None (Some w) enters = refl
identity_cases b c true false m None (Some w) enters = refl
identity_cases b c false true m None (Some w) enters = refl
identity_cases b c false false m None (Some w) enters = refl
identity_cases b c true true m (Some l) before enters = refl
identity_cases b c false true m (Some l) before enters = refl
identity_cases b c out false m (Some l) before enters = absurd (true≢false (sym (enters l refl)))

pub identity_step : IdentityStep
identity_step c b sound k =
    identity_cases b c (names b.excluded k) (list_any (is_of k) b.joiners) (member c k) (last_of (of_key k) b.identities) (identity c k) (joined b (sound.0 L10 refl) k)
    ∙ sym (identity_after_lines-is b k (identity_row c k))

-- memberships

abbrev pub row_of : ℕ → ℕ → ℕ → Bool → Bool → MembershipRow
row_of number made written is_leaving is_revoked = record { last_number = number; made = made; written = written; is_leaving = is_leaving; is_revoked = is_revoked }

abbrev pub time_entered : Option (Written MemberLine) → ℕ
time_entered e = unwrap_or (made_at e) 0

abbrev pub row_with : Option (Written MemberLine) → Bool → Bool → Written MemberLine → MembershipRow
row_with e leaves is w = row_of w.line.stamp.number (time_entered e) w.block.number leaves is

-- revoked by a line, and then by what is taken
revokes : (by_line : Bool) (taken : ℕ → Bool) (row : MembershipRow) (is : Bool) → (cond by_line true row.is_revoked || taken row.made) ≡ is
    → option_map (λ (row : MembershipRow). revoke_where (taken row.made) row) (revoke_if by_line (Some row)) ≡ Some (row_of row.last_number row.made row.written row.is_leaving is)
revokes true taken row is same = ap (λ r. Some (row_of row.last_number row.made row.written row.is_leaving r)) same
revokes false taken row is same = ap (λ r. Some (row_of row.last_number row.made row.written row.is_leaving r)) same

none_revoked : (by_line : Bool) (f : MembershipRow → MembershipRow) → option_map f (revoke_if by_line None) ≡ None
none_revoked true f = refl
none_revoked false f = refl

membership_cases : (c : Chain) (b : Block) (comer leaver : Option MemberLine) (w e : Option (Written MemberLine)) (leaves was by_line is : Bool) (taken : ℕ → Bool)
    → is_some w ≡ is_some e
    → ((l : MemberLine) → leaver ≡ Some l → is_some e ≡ true)
    → ((l : MemberLine) → comer ≡ Some l → (cond by_line true (entered_row c b l).is_revoked || taken (membership_time c b l)) ≡ is)
    → (comer ≡ None → (v : Written MemberLine) → e ≡ Some v → (cond by_line true was || taken (time_entered (Some v))) ≡ is)
    → option_map (row_with (option_or (option_map (written_in b c) comer) e) (cond (is_some leaver) true (cond (is_some comer) false leaves)) is)
    (option_or (option_map (written_in b c) (option_or leaver comer)) w)
    ≡ option_map (λ (row : MembershipRow). revoke_where (taken row.made) row)
    (revoke_if by_line (leave_by b leaver (enter_by c b comer (option_map (row_with e leaves was) w))))
membership_cases c b None None None None leaves was by_line is taken some left new old = sym (none_revoked by_line _)
membership_cases c b None None (Some w) None leaves was by_line is taken some left new old = absurd (true≢false some)
membership_cases c b None None None (Some v) leaves was by_line is taken some left new old = absurd (true≢false (sym some))
membership_cases c b None None (Some w) (Some v) leaves was by_line is taken some left new old = sym (revokes by_line taken (row_with (Some v) leaves was w) is (old refl v refl))
membership_cases c b None (Some l) w None leaves was by_line is taken some left new old = absurd (true≢false (sym (left l refl)))
membership_cases c b None (Some l) None (Some v) leaves was by_line is taken some left new old = absurd (true≢false (sym some))
membership_cases c b None (Some l) (Some w) (Some v) leaves was by_line is taken some left new old =
    sym (revokes by_line taken (left_row b l (row_with (Some v) leaves was w)) is (old refl v refl))
membership_cases c b (Some x) None w e leaves was by_line is taken some left new old = sym (revokes by_line taken (entered_row c b x) is (new x refl))
membership_cases c b (Some x) (Some l) w e leaves was by_line is taken some left new old = sym (revokes by_line taken (left_row b l (entered_row c b x)) is (new x refl))

-- whether a membership that was made then has its entry taken
abbrev pub taken_made : Chain → Block → Text → ℕ → Bool
taken_made c b k made = is_taken c b (made + 2 * lasting c b) (Revocation k)

-- who enters anew has no entry taken
pub new_is : (c : Chain) (b : Block) → IsSound (b ∷ c) → (k : Text) (line : MemberLine) → last_entered b k ≡ Some line
    → (cond (has_revoked b k) true (entered_row c b line).is_revoked || taken_made c b k (membership_time c b line)) ≡ revoked (b ∷ c) k
new_is c b sound k line is =
    let end = membership_time c b line + 2 * lasting c b in
    ap (λ q. cond (has_revoked b k) true (nat_le end (now_of c b)) || (q && nat_le end (now_of c b))) (queue_revocation c b end k)
    ∙ ap (λ last. cond (has_revoked b k) true (nat_le end (now_of c b)) || (cond (has_revoked b k) false (option_map_or (planned_revocation c b end) last (is_queued c end (Revocation k))) && nat_le end (now_of c b))) is
    ∙ by_cases (has_revoked b k) (nat_le end (now_of c b)) (is_planned (now_of c b) end end) (planned_not_taken (now_of c b) end)
    ∙ ap (λ r. (has_revoked b k || r) || nat_le end (now_of c b)) (sym (or_left (revoked_by_line c k) _ (entering_is_not_revoked c b (sound.0 G77 refl) k line is)))
    ∙ ap (λ last. (has_revoked b k || revoked_by_line c k) || is_reached (b ∷ c) (option_map (λ at. at + 2 * lasting c b) (made_at (option_or (option_map (written_in b c) last) (entry c k))))) (sym is)
  where
    by_cases : (has reached planned : Bool) → (planned && reached) ≡ false → (cond has true reached || (cond has false planned && reached)) ≡ ((has || false) || reached)
    by_cases true reached planned none = refl
    by_cases false true planned none = refl
    by_cases false false planned none = none

-- who does not is revoked where its entry is taken
pub old_is : (c : Chain) (b : Block) → IsSound (b ∷ c) → (k : Text) → last_entered b k ≡ None → (v : Written MemberLine) → entry c k ≡ Some v
    → (cond (has_revoked b k) true (revoked c k) || taken_made c b k (time_entered (Some v))) ≡ revoked (b ∷ c) k
old_is c b sound k none v is =
    let t = time_of c in
    let now = now_of c b in
    let end = time_entered (Some v) + 2 * lasting c b in
    let end' = time_entered (Some v) + 2 * (params c).ms_validity in
    let same : end' ≡ end = ap (λ p. time_entered (Some v) + 2 * p.ms_validity) (sym (same_params c b k v is)) in
    ap (λ q. cond (has_revoked b k) true (revoked c k) || (q && nat_le end now)) (queue_revocation c b end k)
    ∙ ap (λ last. cond (has_revoked b k) true (revoked c k) || (cond (has_revoked b k) false (option_map_or (planned_revocation c b end) last (is_queued c end (Revocation k))) && nat_le end now)) none
    ∙ ap (λ q. cond (has_revoked b k) true (revoked c k) || (cond (has_revoked b k) false q && nat_le end now)) (queued_revocation c sound.1 end k)
    ∙ ap (λ e. cond (has_revoked b k) true (revoked_by_line c k || is_reached c (option_map (λ at. at + 2 * (params c).ms_validity) (made_at e)))
    || (cond (has_revoked b k) false (not (revoked_by_line c k) && option_map_or (λ m. is_planned t (m + 2 * (params c).ms_validity) end) (made_at e) false) && nat_le end now)) is
    ∙ ap (λ x. cond (has_revoked b k) true (revoked_by_line c k || nat_le x t) || (cond (has_revoked b k) false (not (revoked_by_line c k) && is_planned t x end) && nat_le end now)) same
    ∙ by_cases (has_revoked b k) (revoked_by_line c k) (nat_le end t) (nat_le end now) (is_planned t end end) (planned_taken t now end) (le_later end t now (time_of-rises b c))
    ∙ (λ i. (has_revoked b k || revoked_by_line c k) || is_reached (b ∷ c) (option_map (λ at. at + 2 * lasting c b) (made_at (option_or (option_map (written_in b c) (sym none i)) (sym is i)))))
  where
    by_cases : (has by_line was reached planned : Bool) → (planned && reached) ≡ (not was && reached) → (was ≡ true → reached ≡ true)
        → (cond has true (by_line || was) || (cond has false (not by_line && planned) && reached)) ≡ ((has || by_line) || reached)
    by_cases true by_line was reached planned same stays = refl
    by_cases false true was reached planned same stays = refl
    by_cases false false true reached planned same stays = sym (stays refl)
    by_cases false false false reached planned same stays = same

pub membership_step : MembershipStep
membership_step c b sound k =
    (λ i. option_map (row_with (entry (b ∷ c) k) (cond (sym (last_any (is_of k) b.leavers) i) true (cond (sym (last_any (is_of k) (entering_lines b)) i) false (leaving c k))) (revoked (b ∷ c) k))
    (option_or (option_map (written_in b c) (last_moved b k i)) (membership c k)))
    ∙ membership_cases c b (last_entered b k) (last_of (is_of k) b.leavers) (membership c k) (entry c k) (leaving c k) (revoked c k) (has_revoked b k) (revoked (b ∷ c) k) (taken_made c b k)
    (some_membership c sound.1 k) leaver (new_is c b sound k) (old_is c b sound k)
    ∙ ap (option_map (revoked_by_time c b k)) (sym (membership_after_lines-is c b k (membership_row c k)))
  where
    leaver : (l : MemberLine) → last_of (is_of k) b.leavers ≡ Some l → is_some (entry c k) ≡ true
    leaver l is =
        let last = last_in (is_of k) b.leavers l is in
        member_has_entry c k
        (subst (λ key. member c key ≡ true) (sym (same_text_is k l.key last.1))
        (and_left (member c l.key) _ (in_all _ b.leavers (sound.0 G80 refl) l last.0)))

-- certifications

abbrev pub cert_with : Bool → Written CertLine → CertificationRow
cert_with is w = record { made = made_of w; written = w.block.number; is_live = is }

pub certification_step : CertificationStep
certification_step c b x y =
    by_cases (last_of (of_pair x y) b.certifications) (certification c x y) (λ at. queue_certification c b at x y ∙ ap (λ q. option_map_or (planned_end c b at) (last_of (of_pair x y) b.certifications) q) (queued_certification c at x y))
    (λ w is. ap (λ p. p.sig_validity) (same_params_certified c b x y w is))
    ∙ ap (option_map (ended_by_time c b x y)) (sym (certification_after_lines-is c b x y (certification_row c x y)))
  where
    alike : (planned reached live : Bool) → (planned && reached) ≡ false → live ≡ (live && not (planned && reached))
    alike planned reached true none = ap not (sym none)
    alike planned reached false none = refl

    ends : (l' l reached : Bool) → l' ≡ not reached → (l' ≡ true → l ≡ true) → l' ≡ (l && not (l && reached))
    ends l' true reached is before = is
    ends true false reached is before = sym (before refl)
    ends false false reached is before = refl

    by_cases : (last : Option CertLine) (e : Option (Written CertLine))
        → ((at : ℕ) → queue_after_lines c b at (Certification x y) ≡ option_map_or (planned_end c b at) last (option_map_or (λ w. is_planned (time_of c) (made_of w + (params c).sig_validity) at) e false))
        → ((w : Written CertLine) → e ≡ Some w → cert_lasting c b ≡ (params c).sig_validity)
        → option_map (cert_with (option_map_or (λ w. nat_lt (now_of c b) (made_of w + cert_lasting c b)) (option_or (option_map (written_in b c) last) e) false)) (option_or (option_map (written_in b c) last) e)
        ≡ option_map (ended_by_time c b x y)
        (option_map_or (λ line. Some (certified_row c b line)) last (option_map (cert_with (option_map_or (λ w. nat_lt (time_of c) (made_of w + (params c).sig_validity)) e false)) e))
    by_cases (Some line) e queue same =
        let end = certification_time c b line + cert_lasting c b in
        let live = nat_lt (now_of c b) end in
        ap (λ r. Some (record { made = certification_time c b line; written = b.number; is_live = r }))
        (alike (is_planned (now_of c b) end end) (nat_le end (now_of c b)) live (planned_not_taken (now_of c b) end)
        ∙ ap (λ q. live && not (q && nat_le end (now_of c b))) (sym (queue end)))
    by_cases None None queue same = refl
    by_cases None (Some w) queue same =
        let t = time_of c in
        let now = now_of c b in
        let end = made_of w + cert_lasting c b in
        let same_end : end ≡ made_of w + (params c).sig_validity = ap (λ l. made_of w + l) (same w refl) in
        ap (λ r. Some (record { made = made_of w; written = w.block.number; is_live = r }))
        (ends (nat_lt now end) (nat_lt t end) (nat_le end now) (not_le' now end) (lt_earlier end t now (time_of-rises b c))
        ∙ ap (λ p. nat_lt t end && not (p && nat_le end now)) (sym (planned_at_end t end))
        ∙ ap (λ x. nat_lt t x && not (is_planned t x end && nat_le end now)) same_end
        ∙ ap (λ q. nat_lt t (made_of w + (params c).sig_validity) && not (q && nat_le end now)) (sym (queue end)))
      where
        not_le' : (now end : ℕ) → nat_lt now end ≡ not (nat_le end now)
        not_le' now end = sym (not_le end now)
