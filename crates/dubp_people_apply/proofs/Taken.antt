-- What is taken from the queue, entry after entry.
use Rattle.std.proofs.Common.{◌≡◌, ℕ, ◌<◌, ◌≤◌, Bool, true, false, cond, not, ◌||◌, ◌&&◌, List, ◌∷◌, Option, Some, None, option_map, nat_le, nat_lt, refl, ap, sym, ◌∙◌, subst, true≢false, arith, le-leb, ltb-true}
use Rattle.std.specs.Prelude.{IfSome}
use Rattle.std.specs.Option.{option_map_or}
use Rattle.std.specs.declared.cmp.Ordering.{Ordering}
use Rattle.std.specs.declared.cmp.Ordering.TheVariants.{Less, Equal, Greater}
use Rattle.std.specs.Ordering.{is_eq, is_gt, ordering_reverse}
use Rattle.std.specs.BTreeSet.{contains}
use Rattle.std.proofs.lemmas.Bool.{lt-leb}
use Rattle.dubp_atoms.specs.Same.{Text, same_text}
use Rattle.dubp_block.specs.declared.block.Block.{Block}
use Rattle.dubp_chain.specs.declared.head.Head.{Head}
use Rattle.dubp_chain.specs.Chains.{Chain}
use Rattle.dubp_chain.specs.Heads.{head_of, time_of}
use Rattle.dubp_chain.specs.Tables.{is_queued}
use Rattle.dubp_chain.specs.Tables as chain
use Rattle.dubp_validity.specs.Reduced.{set_ended}
use Rattle.dubp_validity.specs.Rules.{IsSound}
use Rattle.dubp_steps.proofs.OfLists.{and_left, and_right}
use Rattle.dubp_steps.proofs.OfLists.{time_of-rises}
use Rattle.dubp_mindex.specs.Members.{Members}
use Rattle.dubp_cindex.specs.Rows.{Rows}
use Rattle.dubp_expiry.specs.DueOrder.{entry_cmp}
use Rattle.dubp_expiry.specs.Entries.{Queued, queued, IsNextDue, NoneIsDue}
use Rattle.dubp_expiry.specs.declared.due.Due.{Due as DueValue}
use Rattle.dubp_expiry.specs.declared.due.Due.TheVariants.{Membership, Revocation, Certification}
use Rattle.dubp_expiry.specs.declared.due.Behind.{Behind}
use Rattle.dubp_expiry.specs.declared.due.Behind.TheVariants.{Time, Entry}
use Rattle.dubp_expiry.proofs.Order.{entry_total}
use Rattle.dubp_left.specs.Left.{due_of}
use Rattle.dubp_steps.specs.AfterLines.{now_of, is_planned, queue_after_lines, set_revoked}
use Rattle.dubp_steps.specs.Ordered.{text_cmp, pair_cmp}
use Rattle.dubp_steps.specs.Loops.{Standing, IsTaking, take, is_entry, without_entry, is_noted}
use Rattle.dubp_steps.proofs.Planned.{planned_later, lt_earlier}
use Rattle.dubp_steps.proofs.Rising.{text_tied, pair_tied}
use Rattle.dubp_steps.proofs.Sections.{queue_membership, queue_revocation, queue_certification}
use Rattle.dubp_steps.proofs.Counts.{queue_is_later}
use Rattle.dubp_steps.proofs.Taking.{taking_goes_on, taking_ends}
use Rattle.dubp_people_apply.specs.declared.ended.Ended.{Ended}
use Rattle.dubp_people_apply.specs.Held.{HasMemberships, HasCertifications, HasEntries}
use Rattle.dubp_people_apply.specs.Taking.{IsSince, AreNoted, StandAs, IsBehindAny, AllBehind, HasAllTaken, IsOnTheWay}
use Rattle.dubp_people_apply.proofs.Entries.{entry_tied}

-- ---- what an entry changes

module _ {M : List Members → Type 0} {C : List Rows → Type 0} {Q : List Queued → Type 0} (time : ℕ) (s : Standing) (old new : Ended) where
  pub over_noted : (k : Text) → new.revoked ≡ old.revoked → new.ended ≡ old.ended → ((l : Text) → contains text_cmp new.expired l ≡ (is_eq (text_cmp l k) || contains text_cmp old.expired l))
      → HasEntries Q (take time (chain.Due.Membership k) s).queue → HasMemberships M s.memberships → HasCertifications C s.certifications → AreNoted old s.over s.revoked s.ended
      → StandAs M C Q new (take time (chain.Due.Membership k) s)
  over_noted k revoked ended more queue memberships certifications noted = record {
    queue = queue;
    memberships = memberships;
    certifications = certifications;
    sets = record {
      over = λ l. more l ∙ (λ i. text_tied l k i || noted.over l i);
      revoked = λ l. ap (λ e. contains text_cmp e l) revoked ∙ noted.revoked l;
      ended = λ x y. ap (λ e. contains pair_cmp e (x, y)) ended ∙ noted.ended x y;
    };
  }

  pub revoked_noted : (k : Text) → new.expired ≡ old.expired → new.ended ≡ old.ended → ((l : Text) → contains text_cmp new.revoked l ≡ (is_eq (text_cmp l k) || contains text_cmp old.revoked l))
      → HasEntries Q (take time (chain.Due.Revocation k) s).queue → HasMemberships M (λ l. cond (same_text l k) (option_map set_revoked (s.memberships l)) (s.memberships l)) → HasCertifications C s.certifications
      → AreNoted old s.over s.revoked s.ended → StandAs M C Q new (take time (chain.Due.Revocation k) s)
  revoked_noted k expired ended more queue memberships certifications noted = record {
    queue = queue;
    memberships = memberships;
    certifications = certifications;
    sets = record {
      over = λ l. ap (λ e. contains text_cmp e l) expired ∙ noted.over l;
      revoked = λ l. more l ∙ (λ i. text_tied l k i || noted.revoked l i);
      ended = λ x y. ap (λ e. contains pair_cmp e (x, y)) ended ∙ noted.ended x y;
    };
  }

  pub ended_noted : (a b : Text) → new.expired ≡ old.expired → new.revoked ≡ old.revoked → ((p : Text × Text) → contains pair_cmp new.ended p ≡ (is_eq (pair_cmp p (a, b)) || contains pair_cmp old.ended p))
      → HasEntries Q (take time (chain.Due.Certification a b) s).queue → HasMemberships M s.memberships → HasCertifications C (λ x y. cond (same_text x a && same_text y b) (option_map set_ended (s.certifications x y)) (s.certifications x y))
      → AreNoted old s.over s.revoked s.ended → StandAs M C Q new (take time (chain.Due.Certification a b) s)
  ended_noted a b expired revoked more queue memberships certifications noted = record {
    queue = queue;
    memberships = memberships;
    certifications = certifications;
    sets = record {
      over = λ l. ap (λ e. contains text_cmp e l) expired ∙ noted.over l;
      revoked = λ l. ap (λ e. contains text_cmp e l) revoked ∙ noted.revoked l;
      ended = λ x y. more (x, y) ∙ (λ i. pair_tied x y (a, b) i || noted.ended x y i);
    };
  }

-- the queue without the entry
queue_taken : (time : ℕ) (due : DueValue) (s : Standing) → (take time (due_of due) s).queue ≡ without_entry time (due_of due) s.queue
queue_taken time (Membership k) s = refl
queue_taken time (Revocation k) s = refl
queue_taken time (Certification x y) s = refl

pub taken_queue : {Q : List Queued → Type 0} (time : ℕ) (due : DueValue) (s : Standing) → HasEntries Q (without_entry time (due_of due) s.queue) → HasEntries Q (take time (due_of due) s).queue
taken_queue {Q = Q} time due s has = subst (HasEntries Q) (sym (queue_taken time due s)) has

-- ---- the entries behind the lines come later than the time of the chain

planned_behind : (t now end at : ℕ) → t ≤ now → is_planned now end at ≡ true → nat_lt t at ≡ true
planned_behind t now end at rises planned = lt_earlier at t now rises (and_right (is_planned now end at) _ (sym (planned_later now end at) ∙ planned))

by_line : {L : Type 0} (t now at : ℕ) (end : L → ℕ) (o : Option L) (is : Bool) → t ≤ now → (is ≡ true → nat_lt t at ≡ true) → option_map_or (λ line. is_planned now (end line) at) o is ≡ true → nat_lt t at ≡ true
by_line t now at end None is rises old e = old e
by_line t now at end (Some line) is rises old e = planned_behind t now (end line) at rises e

not_barred : (r is : Bool) → cond r false is ≡ true → is ≡ true
not_barred true is e = absurd (true≢false (sym e))
not_barred false is e = e

pub lines_later : (c : Chain) (b : Block) → IsSound c → (at : ℕ) (due : chain.Due) → queue_after_lines c b at due ≡ true → nat_lt (time_of c) at ≡ true
lines_later c b sound at (chain.Due.Membership k) e =
    by_line (time_of c) (now_of c b) at _ _ _ (time_of-rises b c) (queue_is_later c sound at (chain.Due.Membership k)) (sym (queue_membership c b at k) ∙ e)
lines_later c b sound at (chain.Due.Revocation k) e =
    by_line (time_of c) (now_of c b) at _ _ _ (time_of-rises b c) (queue_is_later c sound at (chain.Due.Revocation k)) (not_barred _ _ (sym (queue_revocation c b at k) ∙ e))
lines_later c b sound at (chain.Due.Certification x y) e =
    by_line (time_of c) (now_of c b) at _ _ _ (time_of-rises b c) (queue_is_later c sound at (chain.Due.Certification x y)) (sym (queue_certification c b at x y) ∙ e)

pub begins_behind : (c : Chain) (b : Block) (s : Standing) (since : Option ℕ) (place : Option Behind) → IsSound (b ∷ c) → IsSince c since → place ≡ option_map Time since → IsTaking c b s → AllBehind place s.queue
begins_behind c b s since place sound is at taking = subst (λ p. AllBehind p s.queue) (sym (at ∙ ap (option_map Time) is)) (from (head_of c) refl)
  where
    from : (h : Option Head) → head_of c ≡ h → AllBehind (option_map Time (option_map (λ (g : Head). g.median_time) h)) s.queue
    from None e time due queued = tt
    from (Some h) e time due queued =
        let later = ltb-true (time_of c) time (lines_later c b sound.1 time (due_of due) (taking.stood time (due_of due) queued)) in
        let same : time_of c ≡ h.median_time = ap (λ o. option_map_or (λ (g : Head). g.median_time) o 0) e in
        omega (arith, later, same)

-- ---- one entry, and the end

other_behind : (r : Ordering) → is_gt r ≡ false → is_eq r ≡ false → r ≡ Less
other_behind Less a b = refl
other_behind Equal a b = absurd (true≢false b)
other_behind Greater a b = absurd (true≢false a)

turned_tie : (e f : ℕ × DueValue) → is_eq (entry_cmp e f) ≡ true → is_eq (entry_cmp f e) ≡ true
turned_tie e f tied = ap is_eq (entry_total.antisymm f e) ∙ by (entry_cmp e f) tied
  where
    by : (r : Ordering) → is_eq r ≡ true → is_eq (ordering_reverse r) ≡ true
    by Less e = e
    by Equal e = e
    by Greater e = e

module _ {M N : List Members → Type 0} {C D : List Rows → Type 0} {Q R : List Queued → Type 0} (c : Chain) (b : Block) (sound : IsSound (b ∷ c)) where
  pub goes_on : (sets sets' : Ended) (place : Option Behind) (now time : ℕ) (due : DueValue) → now ≡ now_of c b
      → ((s : List Queued) → Q s → IfSome (Some (time, due)) (IsNextDue (queued s) (IsBehindAny place) now))
      → ((s : Standing) → StandAs M C Q sets s → StandAs N D R sets' (take time (due_of due) s))
      → IsOnTheWay c b M C Q sets place → IsOnTheWay c b N D R sets' (Some (Entry time due))
  goes_on sets sets' place now time due now_is found took way =
      let q = way.stand.queue in
      let next = found q.state q.at in
      let there : way.standing.queue time (due_of due) ≡ true = sym (q.has time due) ∙ next.has in
      let reached : nat_le time (now_of c b) ≡ true = le-leb _ _ (subst (λ n. time ≤ n) now_is next.due) in
      record {
        standing = take time (due_of due) way.standing;
        stand = took way.standing way.stand;
        taking = (taking_goes_on c b sound way.standing way.taking time (due_of due) there reached).0;
        behind = λ t d queued.
            let left : without_entry time (due_of due) way.standing.queue t (due_of d) ≡ true = ap (λ f. f t (due_of d)) (sym (queue_taken time due way.standing)) ∙ queued in
            let stood : way.standing.queue t (due_of d) ≡ true = and_right (not (is_entry time (due_of due) t (due_of d))) _ left in
            let apart : is_entry time (due_of due) t (due_of d) ≡ false = is_false _ (and_left (not (is_entry time (due_of due) t (due_of d))) _ left) in
            other_behind (entry_cmp (time, due) (t, d)) (next.least (t, d) (q.has t d ∙ stood) (way.behind t d stood))
            (untied (time, due) (t, d) (entry_tied time due t d ∙ apart));
      }
    where
      is_false : (x : Bool) → not x ≡ true → x ≡ false
      is_false true e = absurd (true≢false (sym e))
      is_false false e = refl

      untied : (e f : ℕ × DueValue) → is_eq (entry_cmp f e) ≡ false → is_eq (entry_cmp e f) ≡ false
      untied e f apart = elim (is_eq (entry_cmp e f)) as (λ r. is_eq (entry_cmp e f) ≡ r → r ≡ false) [ true ↦ λ tied. sym (turned_tie e f tied) ∙ apart | false ↦ λ _. refl ] refl

module _ {M : List Members → Type 0} {C : List Rows → Type 0} {Q : List Queued → Type 0} (c : Chain) (b : Block) (sound : IsSound (b ∷ c)) where
  -- what is taken has no record yet
  pub not_noted : {sets : Ended} {place : Option Behind} (now time : ℕ) (due : DueValue) → now ≡ now_of c b → ((s : List Queued) → Q s → IfSome (Some (time, due)) (IsNextDue (queued s) (IsBehindAny place) now))
      → (way : IsOnTheWay c b M C Q sets place) → is_noted way.standing (due_of due) ≡ false
  not_noted now time due now_is found way =
      let q = way.stand.queue in
      let next = found q.state q.at in
      (taking_goes_on c b sound way.standing way.taking time (due_of due) (sym (q.has time due) ∙ next.has) (le-leb _ _ (subst (λ n. time ≤ n) now_is next.due))).1

  pub all_taken : (sets : Ended) (place : Option Behind) (now : ℕ) → now ≡ now_of c b → ((s : List Queued) → Q s → NoneIsDue (queued s) (IsBehindAny place) now)
      → IsOnTheWay c b M C Q sets place → HasAllTaken c b M C Q sets
  all_taken sets place now now_is none way = record {
    standing = way.standing;
    stand = way.stand;
    taken = taking_ends c b sound way.standing way.taking (λ at due queued. late at (back due) queued);
  }
    where
      back : (due : chain.Due) → (d : DueValue) × (due_of d ≡ due)
      back (chain.Due.Membership k) = (Membership k, refl)
      back (chain.Due.Revocation k) = (Revocation k, refl)
      back (chain.Due.Certification x y) = (Certification x y, refl)

      late : {due : chain.Due} (at : ℕ) → (d : DueValue) × (due_of d ≡ due) → way.standing.queue at due ≡ true → nat_le at (now_of c b) ≡ false
      late at d queued =
          let q = way.stand.queue in
          let stood : way.standing.queue at (due_of d.0) ≡ true = ap (way.standing.queue at) d.1 ∙ queued in
          let later : now < at = none q.state q.at (at, d.0) (q.has at d.0 ∙ stood) (way.behind at d.0 stood) in
          lt-leb _ _ (subst (λ n. n < at) now_is later)
