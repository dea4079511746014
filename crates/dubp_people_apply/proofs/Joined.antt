-- The tables of the chain before the block and with it, as chains of states.
use Rattle.std.proofs.Common.{◌≡◌, ℕ, List, ◌∷◌, Option, Some, None, option_map, is_some, refl, ap, sym, ◌∙◌, subst, true≢false}
use Rattle.std.specs.FinMap.{get, empty, same_map, contains_key}
use Rattle.std.proofs.lemmas.Cmp.{nat_list_cmp_total}
use Rattle.dubp_atoms.specs.Same.{Text}
use Rattle.dubp_moving.specs.States.{newest, states}
use Rattle.dubp_block.specs.declared.block.Block.{Block}
use Rattle.dubp_chain.specs.Chains.{Chain}
use Rattle.dubp_chain.specs.Tables.{membership_row, certification_row, is_queued}
use Rattle.dubp_chain.specs.Tables as chain
use Rattle.dubp_validity.specs.Rules.{IsSound}
use Rattle.dubp_mindex.specs.Members.{Members, members}
use Rattle.dubp_cindex.specs.Rows.{Rows}
use Rattle.dubp_cindex.proofs.Texts.{pair_total, pair_exact}
use Rattle.dubp_expiry.specs.Entries.{Queued, queued}
use Rattle.dubp_expiry.proofs.Order.{entry_total, entry_exact}
use Rattle.dubp_left.specs.Left.{due_of, cert_entry, memberships_left, certifications_left, queue_left}
use Rattle.dubp_left.proofs.Left.{texts-apart, memberships-at, certifications-at}
use Rattle.dubp_left.proofs.Queued.{queue-at}
use Rattle.dubp_left.proofs.Looked.{newest-left, membership-look, some-shown}
use Rattle.dubp_steps.specs.AfterLines.{enter_queue, revoke_queue}
use Rattle.dubp_steps.specs.Loops.{after_lines}
use Rattle.dubp_steps.specs.Taken.{is_over_at_once, is_revoked_at_once, is_ended_at_once}
use Rattle.dubp_steps.proofs.Lines.{queue_stands}
use Rattle.dubp_steps.proofs.Sections.{leaves}
use Rattle.dubp_people_apply.specs.declared.ended.Ended.{Ended}
use Rattle.dubp_people_apply.specs.Held.{HasMemberships, HasCertifications, HasEntries}
use Rattle.dubp_people_apply.specs.Lines.{Stands, StandsCertified, queue_after_memberships}
use Rattle.dubp_people_apply.specs.Taking.{AreNoted, StandAs, HasAllTaken, AreLeftBy}
use Rattle.dubp_people_apply.proofs.Small.{memberships_small, certifications_small}

-- ---- before the block

pub memberships_before : {M : List Members → Type 0} (c : Chain) → M (states memberships_left c) → HasMemberships M (membership_row c)
memberships_before c at = record { state = states memberships_left c; at = at; has = membership-look c }

pub certification-look : (c : Chain) (x y : Text) → get (newest empty (states certifications_left c)) (x, y) ≡ option_map cert_entry (certification_row c x y)
certification-look c x y = ap (λ m. get m (x, y)) (newest-left empty certifications_left refl c) ∙ certifications-at c (x, y)

pub certifications_before : {C : List Rows → Type 0} (c : Chain) → C (states certifications_left c) → HasCertifications C (certification_row c)
certifications_before c at = record { state = states certifications_left c; at = at; has = certification-look c }

pub queue_before : {Q : List Queued → Type 0} (c : Chain) → Q (states queue_left c) → HasEntries Q (is_queued c)
queue_before c at = record {
  state = states queue_left c;
  at = at;
  has = λ time due. ap (λ m. contains_key m (time, due)) (newest-left empty queue_left refl c) ∙ ap is_some (queue-at c (time, due)) ∙ some-shown (is_queued c time (due_of due));
}

pub stands_before : {M : List Members → Type 0} {Q : List Queued → Type 0} (c : Chain) (b : Block) → IsSound (b ∷ c) → M (states memberships_left c) → Q (states queue_left c) → Stands c b M Q (membership_row c) (is_queued c)
stands_before c b sound m q = record {
  rows = memberships_before c m;
  queue = queue_before c q;
  ends = (queue_stands c b sound.1).keys;
  small = memberships_small c b sound;
}

-- lines of memberships leave what the queue has of certifications
pub certified_before : {C : List Rows → Type 0} {Q : List Queued → Type 0} (c : Chain) (b : Block) → IsSound (b ∷ c) → C (states certifications_left c) → HasEntries Q (queue_after_memberships c b)
    → StandsCertified c b C Q (certification_row c) (queue_after_memberships c b)
certified_before c b sound at queue = record {
  rows = certifications_before c at;
  queue = queue;
  ends = λ x y time there. (queue_stands c b sound.1).pairs x y time (sym (same x y time) ∙ there);
  small = certifications_small c b sound;
}
  where
    same : (x y : Text) (time : ℕ) → queue_after_memberships c b time (chain.Due.Certification x y) ≡ is_queued c time (chain.Due.Certification x y)
    same x y time =
        leaves (revoke_queue (chain.Due.Certification x y)) (λ line row. refl) b.revoked _
        ∙ leaves (enter_queue c b time (chain.Due.Certification x y)) (λ line row. refl) b.actives _
        ∙ leaves (enter_queue c b time (chain.Due.Certification x y)) (λ line row. refl) b.joiners _

-- ---- with the block

module _ {M : List Members → Type 0} (tail : (s t : List Members) → M s → M (members s ∷ t)) where
  pub memberships_with : (c : Chain) (b : Block) → HasMemberships M (membership_row (b ∷ c)) → M (states memberships_left (b ∷ c))
  memberships_with c b has =
      subst (λ m. M (m ∷ states memberships_left c))
      (same_map nat_list_cmp_total texts-apart _ _ (λ k. has.has k ∙ sym (memberships-at (b ∷ c) k)))
      (tail has.state (states memberships_left c) has.at)

module _ {C : List Rows → Type 0} (tail : (s t : List Rows) → C s → C (newest empty s ∷ t)) where
  pub certifications_with : (c : Chain) (b : Block) → HasCertifications C (certification_row (b ∷ c)) → C (states certifications_left (b ∷ c))
  certifications_with c b has =
      subst (λ m. C (m ∷ states certifications_left c))
      (same_map pair_total pair_exact _ _ (λ p. has.has p.0 p.1 ∙ sym (certifications-at (b ∷ c) p)))
      (tail has.state (states certifications_left c) has.at)

module _ {Q : List Queued → Type 0} (tail : (s t : List Queued) → Q s → Q (queued s ∷ t)) where
  pub queue_with : (c : Chain) (b : Block) → HasEntries Q (is_queued (b ∷ c)) → Q (states queue_left (b ∷ c))
  queue_with c b has =
      subst (λ m. Q (m ∷ states queue_left c))
      (same_map entry_total entry_exact _ _ (λ e. units _ _ (has.has e.0 e.1 ∙ sym (some-shown (is_queued (b ∷ c) e.0 (due_of e.1)))) ∙ sym (queue-at (b ∷ c) e)))
      (tail has.state (states queue_left c) has.at)
    where
      units : (o p : Option (Unit {0})) → is_some o ≡ is_some p → o ≡ p
      units None None e = refl
      units None (Some u) e = absurd (true≢false (sym e))
      units (Some u) None e = absurd (true≢false e)
      units (Some u) (Some v) e = refl

-- ---- one after the other

module _ {M : List Members → Type 0} {C : List Rows → Type 0} {Q P : List Queued → Type 0} (c : Chain) (b : Block) where
  -- behind the lines
  pub lines_stand : (sets : Ended) → Stands c b M Q (λ k. (after_lines c b).memberships k) (queue_after_memberships c b) → StandsCertified c b C P (λ x y. (after_lines c b).certifications x y) (after_lines c b).queue
      → AreNoted sets (is_over_at_once c b) (is_revoked_at_once c b) (is_ended_at_once c b) → StandAs M C P sets (after_lines c b)
  lines_stand sets first second noted = record { queue = second.queue; memberships = first.rows; certifications = second.rows; sets = noted }

-- with what is due taken
pub left_with : {M : List Members → Type 0} {C : List Rows → Type 0} {Q : List Queued → Type 0}
    → ((s t : List Members) → M s → M (members s ∷ t)) → ((s t : List Rows) → C s → C (newest empty s ∷ t)) → ((s t : List Queued) → Q s → Q (queued s ∷ t))
    → (c : Chain) (b : Block) (sets : Ended) → HasAllTaken c b M C Q sets → AreLeftBy (b ∷ c) M C Q
left_with {M = M} {C = C} {Q = Q} m k q c b sets all = record {
  memberships = memberships_with m c b (subst (HasMemberships M) (λ i k. all.taken.memberships k i) all.stand.memberships);
  certifications = certifications_with k c b (subst (HasCertifications C) (λ i x y. all.taken.certifications x y i) all.stand.certifications);
  queue = queue_with q c b (subst (HasEntries Q) (λ i at due. all.taken.queue at due i) all.stand.queue);
}
