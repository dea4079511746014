-- The queue of a chain, by the last line of each key and pair, and that with one block more.
use Rattle.std.proofs.Common.{◌≡◌, ℕ, ◌+◌, ◌*◌, ◌≤◌, Bool, true, false, cond, not, ◌||◌, ◌&&◌, ◌==◌, [], ◌∷◌, Option, Some, None, option_map, is_some, unwrap_or, refl, ap, sym, ◌∙◌, subst, true≢false, nat_le, nat_lt}
use Rattle.std.specs.Option.{option_or, option_map_or}
use Rattle.std.proofs.lemmas.Option.{none-some}
use Rattle.dubp_atoms.specs.Same.{Text}
use Rattle.dubp_block.specs.declared.block.Block.{Block}
use Rattle.dubp_block.specs.declared.block.MemberLine.{MemberLine}
use Rattle.dubp_block.specs.declared.block.CertLine.{CertLine}
use Rattle.dubp_rules.specs.declared.rule.Rule.TheVariants.{G77}
use Rattle.dubp_chain.specs.Words.{last_of}
use Rattle.dubp_chain.specs.Chains.{Chain, params}
use Rattle.dubp_chain.specs.Members.{is_of}
use Rattle.dubp_chain.specs.Heads.{time_of}
use Rattle.dubp_chain.specs.Made.{made}
use Rattle.dubp_chain.specs.People.{Written, written_in, identity, membership_lines, revoked_by_line, revoked, is_reached}
use Rattle.dubp_validity.specs.PeopleRules.{NobodyRevokedMoves}
use Rattle.dubp_chain.specs.Live.{certification, made_of}
use Rattle.dubp_validity.specs.Records.{membership_time}
use Rattle.dubp_chain.specs.Tables.{is_queued, falls_at}
use Rattle.dubp_chain.specs.Tables.Due.{Membership, Revocation, Certification}
use Rattle.dubp_validity.specs.Rules.{IsSound}
use Rattle.dubp_lists.proofs.Elements.{not_true, or_left, in_all, any_in}
use Rattle.dubp_lists.proofs.InOrder.{same_text_is}
use Rattle.dubp_lists.proofs.LastLines.{time_of-rises}
use Rattle.dubp_steps.specs.AfterLines.{now_of, lasting, cert_lasting, of_pair, certification_time, is_planned}
use Rattle.dubp_steps.specs.Steps.{QueueStep}
use Rattle.dubp_steps.proofs.Standing.{last_entered, entry, some_identity, entering_moves}
use Rattle.dubp_steps.proofs.Planned.{not_le, planned_later, planned_stays}
use Rattle.dubp_steps.proofs.Sections.{has_revoked, planned_expiry, planned_revocation, planned_end, queue_membership, queue_revocation, queue_certification}

-- when an entry was made
abbrev pub made_at : Option (Written MemberLine) → Option ℕ
made_at e = option_map (λ w. unwrap_or (made w.before w.block w.line.stamp) 0) e

-- the queue of a chain

pub queued_membership : (c : Chain) → IsSound c → (at : ℕ) (k : Text)
    → is_queued c at (Membership k) ≡ option_map_or (λ m. is_planned (time_of c) (m + (params c).ms_validity) at) (made_at (entry c k)) false
queued_membership c sound at k = by_cases (is_some (identity c k)) (entry c k) (some_identity c sound k)
  where
    by_cases : (there : Bool) (e : Option (Written MemberLine)) → there ≡ is_some e
        → (there && (not (is_reached c (option_map (λ m. m + (params c).ms_validity) (made_at e))) && falls_at (option_map (λ m. m + (params c).ms_validity) (made_at e)) at))
        ≡ option_map_or (λ m. is_planned (time_of c) (m + (params c).ms_validity) at) (made_at e) false
    by_cases there None same = ap (λ r. r && (true && false)) same
    by_cases there (Some w) same =
        let end = unwrap_or (made w.before w.block w.line.stamp) 0 + (params c).ms_validity in
        ap (λ r. r && (not (nat_le end (time_of c)) && (end == at))) same ∙ ap (λ r. r && (end == at)) (not_le end (time_of c))

pub queued_revocation : (c : Chain) → IsSound c → (at : ℕ) (k : Text)
    → is_queued c at (Revocation k) ≡ (not (revoked_by_line c k) && option_map_or (λ m. is_planned (time_of c) (m + 2 * (params c).ms_validity) at) (made_at (entry c k)) false)
queued_revocation c sound at k = by_cases (is_some (identity c k)) (revoked_by_line c k) (entry c k) (some_identity c sound k)
  where
    none : (by_line : Bool) → (not by_line && false) ≡ false
    none true = refl
    none false = refl

    some : (by_line reached falls : Bool) → (true && (not (by_line || reached) && falls)) ≡ (not by_line && (not reached && falls))
    some true reached falls = refl
    some false reached falls = refl

    by_cases : (there by_line : Bool) (e : Option (Written MemberLine)) → there ≡ is_some e
        → (there && (not (by_line || is_reached c (option_map (λ m. m + 2 * (params c).ms_validity) (made_at e))) && falls_at (option_map (λ m. m + 2 * (params c).ms_validity) (made_at e)) at))
        ≡ (not by_line && option_map_or (λ m. is_planned (time_of c) (m + 2 * (params c).ms_validity) at) (made_at e) false)
    by_cases there by_line None same = ap (λ r. r && (not (by_line || false) && false)) same ∙ sym (none by_line)
    by_cases there by_line (Some w) same =
        let end = unwrap_or (made w.before w.block w.line.stamp) 0 + 2 * (params c).ms_validity in
        ap (λ r. r && (not (by_line || nat_le end (time_of c)) && (end == at))) same
        ∙ some by_line (nat_le end (time_of c)) (end == at)
        ∙ ap (λ r. not by_line && (r && (end == at))) (not_le end (time_of c))

pub queued_certification : (c : Chain) (at : ℕ) (x y : Text)
    → is_queued c at (Certification x y) ≡ option_map_or (λ w. is_planned (time_of c) (made_of w + (params c).sig_validity) at) (certification c x y) false
queued_certification c at x y = by_cases (certification c x y)
  where
    by_cases : (w : Option (Written CertLine))
        → (option_map_or (λ w. nat_lt (time_of c) (made_of w + (params c).sig_validity)) w false && falls_at (option_map (λ w. made_of w + (params c).sig_validity) w) at)
        ≡ option_map_or (λ w. is_planned (time_of c) (made_of w + (params c).sig_validity) at) w false
    by_cases None = refl
    by_cases (Some w) = refl

-- with one block more

-- a chain that has a line keeps its parameters
pub same_params : (c : Chain) (b : Block) (k : Text) (w : Written MemberLine) → entry c k ≡ Some w → params (b ∷ c) ≡ params c
same_params [] b k w is = absurd (none-some w is)
same_params (a ∷ c) b k w is = refl

pub same_params_certified : (c : Chain) (b : Block) (x y : Text) (w : Written CertLine) → certification c x y ≡ Some w → params (b ∷ c) ≡ params c
same_params_certified [] b x y w is = absurd (none-some w is)
same_params_certified (a ∷ c) b x y w is = refl

-- nobody revoked enters
pub entering_is_not_revoked : (c : Chain) (b : Block) → NobodyRevokedMoves c b → (k : Text) (line : MemberLine) → last_entered b k ≡ Some line → revoked c k ≡ false
entering_is_not_revoked c b rule k line is =
    let moves = any_in (is_of k) (membership_lines b) (entering_moves b k line is) in
    subst (λ key. revoked c key ≡ false) (sym (same_text_is k moves.0.key moves.2)) (not_true _ (in_all _ (membership_lines b) rule moves.0 moves.1))

entry_step : (now t m' m : ℕ) (at : ℕ) (c : Chain) (b : Block) (last : Option MemberLine) (e : Option (Written MemberLine)) → t ≤ now
    → ((w : Written MemberLine) → e ≡ Some w → m' ≡ m)
    → option_map_or (λ a. is_planned now (a + m') at) (made_at (option_or (option_map (written_in b c) last) e)) false
    ≡ (option_map_or (λ line. is_planned now (membership_time c b line + m') at) last (option_map_or (λ a. is_planned t (a + m) at) (made_at e) false) && nat_lt now at)
entry_step now t m' m at c b (Some line) e rises same = planned_later now (membership_time c b line + m') at
entry_step now t m' m at c b None None rises same = refl
entry_step now t m' m at c b None (Some w) rises same =
    let a = unwrap_or (made w.before w.block w.line.stamp) 0 in
    planned_stays t now (a + m') at rises ∙ ap (λ l. is_planned t (a + l) at && nat_lt now at) (same w refl)

pub queue_step : QueueStep
queue_step c b sound at (Membership k) =
    queued_membership (b ∷ c) sound at k
    ∙ entry_step (now_of c b) (time_of c) (lasting c b) (params c).ms_validity at c b (last_entered b k) (entry c k) (time_of-rises b c)
    (λ w is. ap (λ p. p.ms_validity) (same_params c b k w is))
    ∙ ap (λ q. option_map_or (planned_expiry c b at) (last_entered b k) q && nat_lt (now_of c b) at) (sym (queued_membership c sound.1 at k))
    ∙ ap (λ q. q && nat_lt (now_of c b) at) (sym (queue_membership c b at k))
queue_step c b sound at (Revocation k) =
    queued_revocation (b ∷ c) sound at k
    ∙ ap (λ q. not (has_revoked b k || revoked_by_line c k) && q)
    (entry_step (now_of c b) (time_of c) (2 * lasting c b) (2 * (params c).ms_validity) at c b (last_entered b k) (entry c k) (time_of-rises b c)
    (λ w is. ap (λ p. 2 * p.ms_validity) (same_params c b k w is)))
    ∙ by_cases (has_revoked b k) (revoked_by_line c k) (last_entered b k) (option_map_or (λ m. is_planned (time_of c) (m + 2 * (params c).ms_validity) at) (made_at (entry c k)) false) (nat_lt (now_of c b) at)
    (λ line is. or_left (revoked_by_line c k) _ (entering_is_not_revoked c b (sound.0 G77 refl) k line is))
    ∙ ap (λ q. cond (has_revoked b k) false (option_map_or (planned_revocation c b at) (last_entered b k) q) && nat_lt (now_of c b) at) (sym (queued_revocation c sound.1 at k))
    ∙ ap (λ q. q && nat_lt (now_of c b) at) (sym (queue_revocation c b at k))
  where
    by_cases : (has by_line : Bool) (last : Option MemberLine) (waits later : Bool) → ((line : MemberLine) → last ≡ Some line → by_line ≡ false)
        → (not (has || by_line) && (option_map_or (planned_revocation c b at) last waits && later))
        ≡ (cond has false (option_map_or (planned_revocation c b at) last (not by_line && waits)) && later)
    by_cases true by_line last waits later free = refl
    by_cases false true (Some line) waits later free = absurd (true≢false (free line refl))
    by_cases false false (Some line) waits later free = refl
    by_cases false true None waits later free = refl
    by_cases false false None waits later free = refl
queue_step c b sound at (Certification x y) =
    queued_certification (b ∷ c) at x y
    ∙ by_cases (last_of (of_pair x y) b.certifications) (certification c x y) (λ w is. ap (λ p. p.sig_validity) (same_params_certified c b x y w is))
    ∙ ap (λ q. option_map_or (planned_end c b at) (last_of (of_pair x y) b.certifications) q && nat_lt (now_of c b) at) (sym (queued_certification c at x y))
    ∙ ap (λ q. q && nat_lt (now_of c b) at) (sym (queue_certification c b at x y))
  where
    by_cases : (last : Option CertLine) (e : Option (Written CertLine)) → ((w : Written CertLine) → e ≡ Some w → cert_lasting c b ≡ (params c).sig_validity)
        → option_map_or (λ w. is_planned (now_of c b) (made_of w + cert_lasting c b) at) (option_or (option_map (written_in b c) last) e) false
        ≡ (option_map_or (planned_end c b at) last (option_map_or (λ w. is_planned (time_of c) (made_of w + (params c).sig_validity) at) e false) && nat_lt (now_of c b) at)
    by_cases (Some line) e same = planned_later (now_of c b) (certification_time c b line + cert_lasting c b) at
    by_cases None None same = refl
    by_cases None (Some w) same =
        planned_stays (time_of c) (now_of c b) (made_of w + cert_lasting c b) at (time_of-rises b c)
        ∙ ap (λ l. is_planned (time_of c) (made_of w + l) at && nat_lt (now_of c b) at) (same w refl)
