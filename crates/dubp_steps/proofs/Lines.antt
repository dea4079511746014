-- The lines of a block: what each cancels and plans, that the queue stands at the ends of the rows, that no line finds a row that an
-- earlier one made, and who is at an end with its line.
use Rattle.std.proofs.Common.{◌≡◌, ℕ, ◌+◌, ◌*◌, Bool, true, false, cond, not, ◌||◌, ◌&&◌, ◌==◌, List, [], ◌∷◌, ◌++◌, Option, Some, None, option_map, is_some, map, fold, refl, ap, sym, ◌∙◌, subst, true≢false, nat_le, nat_lt, append_assoc}
use Rattle.std.specs.Prelude.{⊤}
use Rattle.std.specs.Option.{option_or, option_map_or}
use Rattle.std.specs.List.{list_any}
use Rattle.dubp_atoms.specs.Same.{Text, same_text}
use Rattle.dubp_block.specs.declared.block.Block.{Block}
use Rattle.dubp_block.specs.declared.block.MemberLine.{MemberLine}
use Rattle.dubp_block.specs.declared.block.RevokedLine.{RevokedLine}
use Rattle.dubp_block.specs.declared.block.CertLine.{CertLine}
use Rattle.dubp_rules.specs.declared.rule.Rule.TheVariants.{L12, L14}
use Rattle.dubp_chain.specs.Words.{names, last_of, each_once}
use Rattle.dubp_chain.specs.Chains.{params}
use Rattle.dubp_chain.specs.Members.{is_of}
use Rattle.dubp_chain.specs.People.{expired}
use Rattle.dubp_chain.specs.Live.{live, received}
use Rattle.dubp_validity.specs.LocalRules.{moving_keys, same_pair}
use Rattle.dubp_validity.specs.Records.{membership_time}
use Rattle.dubp_chain.specs.Tables.{identity_row, MembershipRow, membership_row, CertificationRow, certification_row, Due, is_to_be_excluded}
use Rattle.dubp_chain.specs.Tables.Due.{Membership, Revocation, Certification}
use Rattle.dubp_lists.proofs.Elements.{and_left, and_right, or_left, or_right, not_true, is_false, list_any-map}
use Rattle.dubp_lists.proofs.InOrder.{same_text_is, same_text_own}
use Rattle.dubp_lists.proofs.LastLines.{last_any}
use Rattle.dubp_steps.specs.AfterLines.{now_of, lasting, cert_lasting, entering_lines, of_pair, certification_time, entered_row, left_row, set_revoked, certified_row, enter_line, leave_line, revoke_line, certify_line, is_planned}
use Rattle.dubp_steps.specs.Taken.{kicked_by}
use Rattle.dubp_steps.specs.Steps.{touches, people_records}
use Rattle.dubp_steps.specs.Loops.{Queue, is_entry, with_entry, with_later, without_ends, without_end, revoked_queue, EnteringReplans, CertifyingReplans, RevokingReplans, QueueStands, EachLineStands, RowIsOld, CertificationIsOld, AtOnceByLines, kicked_record, KickedFold}
use Rattle.dubp_steps.proofs.Sections.{by_last, by_any}
use Rattle.dubp_steps.proofs.Taking.{old_expiry, old_revocation, old_end, planned_end_is}
use Rattle.dubp_steps.proofs.Touched.{kicked_by_records}

never : {X : Type 0} → false ≡ true → X
never e = absurd (true≢false (sym e))

-- what a line cancels and plans

later_at : (now time : ℕ) (entry : Due) (q : Queue) (at : ℕ) (due : Due) → with_later now time entry q at due ≡ ((nat_lt now time && is_entry time entry at due) || q at due)
later_at now time entry q at due =
    elim (nat_lt now time) as (λ r. cond r (with_entry time entry q) q at due ≡ ((r && is_entry time entry at due) || q at due)) [ true ↦ refl | false ↦ refl ]

-- what another due has
other_later : (lt at r : Bool) → ((lt && (at && false)) || r) ≡ r
other_later true true r = refl
other_later true false r = refl
other_later false at r = refl

other_kept : (at r : Bool) → (not (at && false) && r) ≡ r
other_kept true r = refl
other_kept false r = refl

-- what this due has: what stood there is cancelled
this_planned : (lt at same r : Bool) → (same ≡ true → r ≡ false) → ((lt && (at && same)) || r) ≡ cond same (lt && at) r
this_planned lt at false r none = other_later lt at r
this_planned true true true r none = refl
this_planned true false true r none = none refl
this_planned false at true r none = none refl

this_cancelled : (at same r : Bool) → (r ≡ true → same ≡ true → at ≡ true) → same ≡ true → (not (at && same) && r) ≡ false
this_cancelled true true true ends same = refl
this_cancelled true true false ends same = refl
this_cancelled false true true ends same = sym (ends refl refl)
this_cancelled false true false ends same = refl
this_cancelled at false r ends same = never same

-- a key that is not this one keeps what it has
kept : (same at r : Bool) → same ≡ false → (not (at && same) && r) ≡ r
kept same at r e = ap (λ s. not (at && s) && r) e ∙ other_kept at r

or_cond : (lt at same r r' : Bool) → (same ≡ true → r' ≡ false) → (same ≡ false → r' ≡ r) → ((lt && (at && same)) || r') ≡ cond same (lt && at) r
or_cond lt at true r r' gone keeps = this_planned lt at true r' gone
or_cond lt at false r r' gone keeps = other_later lt at r' ∙ keeps refl

pub entering_replans : EnteringReplans
entering_replans now lasting made key row q stands at (Membership k) =
    later_at now (made + 2 * lasting) (Revocation key) _ at (Membership k)
    ∙ other_later (nat_lt now (made + 2 * lasting)) (made + 2 * lasting == at) _
    ∙ later_at now (made + lasting) (Membership key) (without_ends lasting key row q) at (Membership k)
    ∙ or_cond (nat_lt now (made + lasting)) (made + lasting == at) (same_text k key) (q at (Membership k)) (without_ends lasting key row q at (Membership k))
    (gone row stands.expiry) (keeps row)
  where
    gone : (row : Option MembershipRow) → ((at : ℕ) → q at (Membership key) ≡ true → option_map_or (λ (row : MembershipRow). row.made + lasting == at) row false ≡ true)
        → same_text k key ≡ true → without_ends lasting key row q at (Membership k) ≡ false
    gone None ends same = is_false (q at (Membership k)) (λ e. never (ends at ((λ i. q at (Membership (sym (same_text_is k key same) i))) ∙ e)))
    gone (Some r) ends same =
        other_kept (r.made + 2 * lasting == at) _
        ∙ this_cancelled (r.made + lasting == at) (same_text k key) (q at (Membership k)) (λ e _. ends at ((λ i. q at (Membership (sym (same_text_is k key same) i))) ∙ e)) same

    keeps : (row : Option MembershipRow) → same_text k key ≡ false → without_ends lasting key row q at (Membership k) ≡ q at (Membership k)
    keeps None other = refl
    keeps (Some r) other = other_kept (r.made + 2 * lasting == at) _ ∙ kept (same_text k key) (r.made + lasting == at) (q at (Membership k)) other
entering_replans now lasting made key row q stands at (Revocation k) =
    later_at now (made + 2 * lasting) (Revocation key) _ at (Revocation k)
    ∙ or_cond (nat_lt now (made + 2 * lasting)) (made + 2 * lasting == at) (same_text k key) (q at (Revocation k)) _
    (λ same. before ∙ gone row stands.revocation same) (λ other. before ∙ keeps row other)
  where
    before : with_later now (made + lasting) (Membership key) (without_ends lasting key row q) at (Revocation k) ≡ without_ends lasting key row q at (Revocation k)
    before =
        later_at now (made + lasting) (Membership key) (without_ends lasting key row q) at (Revocation k)
        ∙ other_later (nat_lt now (made + lasting)) (made + lasting == at) _

    gone : (row : Option MembershipRow) → ((at : ℕ) → q at (Revocation key) ≡ true → option_map_or (λ (row : MembershipRow). row.made + 2 * lasting == at) row false ≡ true)
        → same_text k key ≡ true → without_ends lasting key row q at (Revocation k) ≡ false
    gone None ends same = is_false (q at (Revocation k)) (λ e. never (ends at ((λ i. q at (Revocation (sym (same_text_is k key same) i))) ∙ e)))
    gone (Some r) ends same =
        ap (λ x. not (r.made + 2 * lasting == at && same_text k key) && x) (other_kept (r.made + lasting == at) (q at (Revocation k)))
        ∙ this_cancelled (r.made + 2 * lasting == at) (same_text k key) (q at (Revocation k)) (λ e _. ends at ((λ i. q at (Revocation (sym (same_text_is k key same) i))) ∙ e)) same

    keeps : (row : Option MembershipRow) → same_text k key ≡ false → without_ends lasting key row q at (Revocation k) ≡ q at (Revocation k)
    keeps None other = refl
    keeps (Some r) other =
        ap (λ x. not (r.made + 2 * lasting == at && same_text k key) && x) (other_kept (r.made + lasting == at) (q at (Revocation k)))
        ∙ kept (same_text k key) (r.made + 2 * lasting == at) (q at (Revocation k)) other
entering_replans now lasting made key row q stands at (Certification x y) =
    later_at now (made + 2 * lasting) (Revocation key) _ at (Certification x y)
    ∙ other_later (nat_lt now (made + 2 * lasting)) (made + 2 * lasting == at) _
    ∙ later_at now (made + lasting) (Membership key) (without_ends lasting key row q) at (Certification x y)
    ∙ other_later (nat_lt now (made + lasting)) (made + lasting == at) _
    ∙ keeps row
  where
    keeps : (row : Option MembershipRow) → without_ends lasting key row q at (Certification x y) ≡ q at (Certification x y)
    keeps None = refl
    keeps (Some r) = other_kept (r.made + 2 * lasting == at) _ ∙ other_kept (r.made + lasting == at) _

pub revoking_replans : RevokingReplans
revoking_replans lasting key row q stands at (Membership k) = keeps row
  where
    keeps : (row : Option MembershipRow) → revoked_queue lasting key row q at (Membership k) ≡ q at (Membership k)
    keeps None = refl
    keeps (Some r) = other_kept (r.made + 2 * lasting == at) _
revoking_replans lasting key row q stands at (Revocation k) =
    by (same_text k key) refl row stands.revocation
  where
    by : (same : Bool) → same_text k key ≡ same → (row : Option MembershipRow)
        → ((at : ℕ) → q at (Revocation key) ≡ true → option_map_or (λ (row : MembershipRow). row.made + 2 * lasting == at) row false ≡ true)
        → revoked_queue lasting key row q at (Revocation k) ≡ cond same false (q at (Revocation k))
    by true same None ends = is_false (q at (Revocation k)) (λ e. never (ends at ((λ i. q at (Revocation (sym (same_text_is k key same) i))) ∙ e)))
    by true same (Some r) ends = this_cancelled (r.made + 2 * lasting == at) (same_text k key) (q at (Revocation k)) (λ e _. ends at ((λ i. q at (Revocation (sym (same_text_is k key same) i))) ∙ e)) same
    by false other None ends = refl
    by false other (Some r) ends = kept (same_text k key) (r.made + 2 * lasting == at) (q at (Revocation k)) other
revoking_replans lasting key row q stands at (Certification x y) = keeps row
  where
    keeps : (row : Option MembershipRow) → revoked_queue lasting key row q at (Certification x y) ≡ q at (Certification x y)
    keeps None = refl
    keeps (Some r) = other_kept (r.made + 2 * lasting == at) _

pub certifying_replans : CertifyingReplans
certifying_replans now lasting made from to row q stands at (Membership k) =
    later_at now (made + lasting) (Certification from to) (without_end lasting from to row q) at (Membership k)
    ∙ other_later (nat_lt now (made + lasting)) (made + lasting == at) _
    ∙ keeps row
  where
    keeps : (row : Option CertificationRow) → without_end lasting from to row q at (Membership k) ≡ q at (Membership k)
    keeps None = refl
    keeps (Some r) = other_kept (r.made + lasting == at) _
certifying_replans now lasting made from to row q stands at (Revocation k) =
    later_at now (made + lasting) (Certification from to) (without_end lasting from to row q) at (Revocation k)
    ∙ other_later (nat_lt now (made + lasting)) (made + lasting == at) _
    ∙ keeps row
  where
    keeps : (row : Option CertificationRow) → without_end lasting from to row q at (Revocation k) ≡ q at (Revocation k)
    keeps None = refl
    keeps (Some r) = other_kept (r.made + lasting == at) _
certifying_replans now lasting made from to row q stands at (Certification x y) =
    later_at now (made + lasting) (Certification from to) (without_end lasting from to row q) at (Certification x y)
    ∙ or_cond (nat_lt now (made + lasting)) (made + lasting == at) ((same_text x from && same_text y to)) (q at (Certification x y)) (without_end lasting from to row q at (Certification x y))
    (gone row stands) (keeps row)
  where
    of_line : (same_text x from && same_text y to) ≡ true → q at (Certification x y) ≡ true → q at (Certification from to) ≡ true
    of_line same e =
        (λ i. q at (Certification (sym (same_text_is x from (and_left (same_text x from) (same_text y to) same)) i) (sym (same_text_is y to (and_right (same_text x from) (same_text y to) same)) i))) ∙ e

    gone : (row : Option CertificationRow) → ((at : ℕ) → q at (Certification from to) ≡ true → option_map_or (λ (row : CertificationRow). row.made + lasting == at) row false ≡ true)
        → (same_text x from && same_text y to) ≡ true → without_end lasting from to row q at (Certification x y) ≡ false
    gone None ends same = is_false (q at (Certification x y)) (λ e. never (ends at (of_line same e)))
    gone (Some r) ends same = this_cancelled (r.made + lasting == at) ((same_text x from && same_text y to)) (q at (Certification x y)) (λ e _. ends at (of_line same e)) same

    keeps : (row : Option CertificationRow) → (same_text x from && same_text y to) ≡ false → without_end lasting from to row q at (Certification x y) ≡ q at (Certification x y)
    keeps None other = refl
    keeps (Some r) other = kept ((same_text x from && same_text y to)) (r.made + lasting == at) (q at (Certification x y)) other

-- the queue stands at the ends of the rows

pub queue_stands : QueueStands
queue_stands c b sound = record { keys = λ k. record { expiry = old_expiry c b sound k; revocation = old_revocation c b sound k }; pairs = old_end c b }

at_end : (P : Bool → Type 0) (test : Bool) → (test ≡ true → P true) → (test ≡ false → P false) → P test
at_end P true yes' no' = yes' refl
at_end P false yes' no' = no' refl

pub each_line_stands : EachLineStands
each_line_stands lasting q =
    record {
      enters = λ k row stands now key new.
          record {
            expiry = λ at. at_end (λ r. cond r (is_planned now (new.made + lasting) at) (q at (Membership k)) ≡ true → option_map_or (λ (row : MembershipRow). row.made + lasting == at) (cond r (Some new) row) false ≡ true)
                (same_text k key) (λ _ e. planned_end_is now (new.made + lasting) at e) (λ _. stands.expiry at);
            revocation = λ at. at_end (λ r. cond r (is_planned now (new.made + 2 * lasting) at) (q at (Revocation k)) ≡ true → option_map_or (λ (row : MembershipRow). row.made + 2 * lasting == at) (cond r (Some new) row) false ≡ true)
                (same_text k key) (λ _ e. planned_end_is now (new.made + 2 * lasting) at e) (λ _. stands.revocation at);
          };
      leaves = λ k row stands b line.
          record {
            expiry = λ at e. left_test b (λ made. made + lasting == at) k row line ∙ stands.expiry at e;
            revocation = λ at e. left_test b (λ made. made + 2 * lasting == at) k row line ∙ stands.revocation at e;
          };
      revokes = λ k row stands line.
          record {
            expiry = λ at e. revoked_test (λ made. made + lasting == at) k row line ∙ stands.expiry at e;
            revocation = λ at. at_end (λ r. cond r false (q at (Revocation k)) ≡ true → option_map_or (λ (row : MembershipRow). row.made + 2 * lasting == at) (revoke_line k row line) false ≡ true)
                (same_text k line.key) (λ _ e. never e) (λ _ e. revoked_test (λ made. made + 2 * lasting == at) k row line ∙ stands.revocation at e);
          };
      certifies = λ x y row stands now from to new at.
          at_end (λ r. cond r (is_planned now (new.made + lasting) at) (q at (Certification x y)) ≡ true → option_map_or (λ (row : CertificationRow). row.made + lasting == at) (cond r (Some new) row) false ≡ true)
          (same_text x from && same_text y to) (λ _ e. planned_end_is now (new.made + lasting) at e) (λ _. stands at);
    }
  where
    left_test : (b : Block) (test : ℕ → Bool) (k : Text) (row : Option MembershipRow) (line : MemberLine)
        → option_map_or (λ (row : MembershipRow). test row.made) (leave_line b k row line) false ≡ option_map_or (λ (row : MembershipRow). test row.made) row false
    left_test b test k None line = elim (is_of k line) as (λ r. option_map_or (λ (row : MembershipRow). test row.made) (cond r None None) false ≡ false) [ true ↦ refl | false ↦ refl ]
    left_test b test k (Some x) line = elim (is_of k line) as (λ r. option_map_or (λ (row : MembershipRow). test row.made) (cond r (option_map (left_row b line) (Some x)) (Some x)) false ≡ test x.made) [ true ↦ refl | false ↦ refl ]

    revoked_test : (test : ℕ → Bool) (k : Text) (row : Option MembershipRow) (line : RevokedLine)
        → option_map_or (λ (row : MembershipRow). test row.made) (revoke_line k row line) false ≡ option_map_or (λ (row : MembershipRow). test row.made) row false
    revoked_test test k None line = elim (same_text k line.key) as (λ r. option_map_or (λ (row : MembershipRow). test row.made) (cond r None None) false ≡ false) [ true ↦ refl | false ↦ refl ]
    revoked_test test k (Some x) line = elim (same_text k line.key) as (λ r. option_map_or (λ (row : MembershipRow). test row.made) (cond r (option_map set_revoked (Some x)) (Some x)) false ≡ test x.made) [ true ↦ refl | false ↦ refl ]

-- no line finds a row that an earlier one made

map-append : {X Y : Type 0} (f : X → Y) (xs ys : List X) → map f (xs ++ ys) ≡ map f xs ++ map f ys
map-append f [] ys = refl
map-append f (x ∷ xs) ys = ap (λ l. f x ∷ l) (map-append f xs ys)

other_way : (k l : Text) → same_text k l ≡ false → same_text l k ≡ false
other_way k l e = is_false (same_text l k) (λ same. true≢false (sym (subst (λ x. same_text k x ≡ true) (sym (same_text_is l k same)) (same_text_own k)) ∙ e))

apart_before : (ks : List Text) (k : Text) (rest : List Text) → each_once same_text (ks ++ k ∷ rest) ≡ true → names ks k ≡ false
apart_before [] k rest once = refl
apart_before (x ∷ ks) k rest once =
    let none = not_true _ (and_left (not (list_any (same_text x) (ks ++ k ∷ rest))) _ once) in
    let here = other_way x k (at_it ks none) in
    rw here (apart_before ks k rest (and_right (not (list_any (same_text x) (ks ++ k ∷ rest))) _ once))
  where
    at_it : (ks : List Text) → list_any (same_text x) (ks ++ k ∷ rest) ≡ false → same_text x k ≡ false
    at_it [] e = or_left (same_text x k) _ e
    at_it (y ∷ ks) e = at_it ks (or_right (same_text x y) _ e)

no_last : {X : Type 0} (test : X → Bool) (xs : List X) → list_any test xs ≡ false → last_of test xs ≡ None
no_last test xs e = by (last_of test xs) (last_any test xs ∙ e)
  where
    by : {X : Type 0} (o : Option X) → is_some o ≡ false → o ≡ None
    by None e = refl
    by (Some x) e = absurd (true≢false e)

-- the keys of Joiners and Actives stand once, and so do those behind a line
keys_once : (b : Block) → each_once same_text (moving_keys b) ≡ true → (before after : List MemberLine) (line : MemberLine) → entering_lines b ≡ before ++ line ∷ after
    → list_any (is_of line.key) before ≡ false
keys_once b once before after line split =
    sym (list_any-map (same_text line.key) (λ (line : MemberLine). line.key) before)
    ∙ apart_before (map (λ line. line.key) before) line.key (map (λ line. line.key) after ++ (map (λ line. line.key) b.leavers ++ b.excluded))
    (ap (each_once same_text) (sym parts) ∙ once)
  where
    parts : moving_keys b ≡ map (λ (line : MemberLine). line.key) before ++ line.key ∷ (map (λ (line : MemberLine). line.key) after ++ (map (λ (line : MemberLine). line.key) b.leavers ++ b.excluded))
    parts =
        ap (λ l. map (λ (line : MemberLine). line.key) l ++ b.excluded) (sym (append_assoc b.joiners b.actives b.leavers) ∙ ap (λ l. l ++ b.leavers) split)
        ∙ ap (λ l. l ++ b.excluded) (map-append (λ (line : MemberLine). line.key) (before ++ line ∷ after) b.leavers)
        ∙ append_assoc (map (λ (line : MemberLine). line.key) (before ++ line ∷ after)) (map (λ (line : MemberLine). line.key) b.leavers) b.excluded
        ∙ ap (λ l. l ++ (map (λ (line : MemberLine). line.key) b.leavers ++ b.excluded)) (map-append (λ (line : MemberLine). line.key) before (line ∷ after))
        ∙ append_assoc (map (λ (line : MemberLine). line.key) before) (line.key ∷ map (λ (line : MemberLine). line.key) after) (map (λ (line : MemberLine). line.key) b.leavers ++ b.excluded)

pub row_is_old : RowIsOld
row_is_old c b sound before after line split =
    by_last (enter_line c b line.key) (is_of line.key) (λ line _. Some (entered_row c b line)) (λ y z row. refl) (λ line row. refl) before (membership_row c line.key)
    ∙ ap (λ last. option_map_or (λ line. Some (entered_row c b line)) last (membership_row c line.key)) (no_last (is_of line.key) before (keys_once b (sound.0 L12 refl) before after line split))

pairs_once : (before after : List CertLine) (line : CertLine) → each_once same_pair (before ++ line ∷ after) ≡ true → list_any (of_pair line.from line.to) before ≡ false
pairs_once [] after line once = refl
pairs_once (x ∷ before) after line once =
    let none = not_true _ (and_left (not (list_any (same_pair x) (before ++ line ∷ after))) _ once) in
    let here = other_pair (at_it before none) in
    rw here (pairs_once before after line (and_right (not (list_any (same_pair x) (before ++ line ∷ after))) _ once))
  where
    at_it : (before : List CertLine) → list_any (same_pair x) (before ++ line ∷ after) ≡ false → same_pair x line ≡ false
    at_it [] e = or_left (same_pair x line) _ e
    at_it (y ∷ before) e = at_it before (or_right (same_pair x y) _ e)

    other_pair : same_pair x line ≡ false → of_pair line.from line.to x ≡ false
    other_pair e =
        is_false (of_pair line.from line.to x) (λ same.
        let from = same_text_is line.from x.from (and_left (same_text line.from x.from) (same_text line.to x.to) same) in
        let to = same_text_is line.to x.to (and_right (same_text line.from x.from) (same_text line.to x.to) same) in
        let back : same_pair x line ≡ true = (λ i. same_text (sym from i) line.from && same_text (sym to i) line.to) ∙ (λ i. same_text_own line.from i && same_text_own line.to i) in
        true≢false (sym back ∙ e))

pub certification_is_old : CertificationIsOld
certification_is_old c b sound before after line split =
    by_last (certify_line c b line.from line.to) (of_pair line.from line.to) (λ line _. Some (certified_row c b line)) (λ y z row. refl) (λ line row. refl) before (certification_row c line.from line.to)
    ∙ ap (λ last. option_map_or (λ line. Some (certified_row c b line)) last (certification_row c line.from line.to))
    (no_last (of_pair line.from line.to) before (pairs_once before after line (subst (λ l. each_once same_pair l ≡ true) split (sound.0 L14 refl))))

-- who is at an end with a line

-- where the test passes at most once, some line that passes is the last
abbrev IsOnce : {X : Type 0} → (X → Bool) → List X → Type 0
IsOnce test [] = ⊤
IsOnce test (x ∷ xs) = (test x ≡ true → list_any test xs ≡ false) × IsOnce test xs

any_is_last : {X : Type 0} (test p : X → Bool) (xs : List X) → IsOnce test xs → list_any (λ x. test x && p x) xs ≡ option_map_or p (last_of test xs) false
any_is_last test p [] once = refl
any_is_last {X} test p (x ∷ xs) once =
    elim (test x) as (λ r. test x ≡ r → ((r && p x) || list_any (λ x. test x && p x) xs) ≡ option_map_or p (option_or (last_of test xs) (cond r (Some x) None)) false) [
      | true ↦ λ e.
          let none = once.0 e in
          ap (λ r. p x || r) (none_of xs none) ∙ whole (p x) ∙ ap (λ o. option_map_or p (option_or o (Some x)) false) (sym (no_last test xs none))
      | false ↦ λ _. any_is_last test p xs once.1 ∙ ap (λ o. option_map_or p o false) (sym (or_nothing (last_of test xs)))
    ] refl
  where
    whole : (a : Bool) → (a || false) ≡ a
    whole true = refl
    whole false = refl

    none_of : (xs : List X) → list_any test xs ≡ false → list_any (λ x. test x && p x) xs ≡ false
    none_of [] e = refl
    none_of (y ∷ ys) e =
        let here = or_left (test y) (list_any test ys) e in
        ap (λ r. (r && p y) || list_any (λ x. test x && p x) ys) here ∙ none_of ys (or_right (test y) (list_any test ys) e)

    or_nothing : {Y : Type 0} (o : Option Y) → option_or o None ≡ o
    or_nothing None = refl
    or_nothing (Some y) = refl

-- a set that lines fill
fold_any : {X : Type 0} (t : X → Bool) (xs : List X) (is : Bool) → fold (λ is x. t x || is) is xs ≡ (list_any t xs || is)
fold_any t [] is = refl
fold_any t (x ∷ xs) is = fold_any t xs (t x || is) ∙ order (list_any t xs) (t x) is
  where
    order : (a b c : Bool) → (a || (b || c)) ≡ ((b || a) || c)
    order true true c = refl
    order true false c = refl
    order false true c = refl
    order false false c = refl

set_is : {X : Type 0} (t test p : X → Bool) → ((x : X) → t x ≡ (test x && p x)) → (xs : List X) → IsOnce test xs → fold (λ is x. t x || is) false xs ≡ option_map_or p (last_of test xs) false
set_is {X} t test p same xs once = fold_any t xs false ∙ or_false (list_any t xs) ∙ any_same xs ∙ any_is_last test p xs once
  where
    or_false : (a : Bool) → (a || false) ≡ a
    or_false true = refl
    or_false false = refl

    any_same : (xs : List X) → list_any t xs ≡ list_any (λ x. test x && p x) xs
    any_same [] = refl
    any_same (x ∷ xs) = λ i. same x i || any_same xs i

-- under a test a value of the line is that of its key
under : (test a b : Bool) → (test ≡ true → a ≡ b) → (test && a) ≡ (test && b)
under true a b same = same refl
under false a b same = refl

entering_once : (k : Text) (lines : List MemberLine) (rest : List Text) → each_once same_text (map (λ (line : MemberLine). line.key) lines ++ rest) ≡ true → IsOnce (is_of k) lines
entering_once k [] rest once = tt
entering_once k (x ∷ lines) rest once = (
  (λ same.
      let none = not_true _ (and_left (not (list_any (same_text x.key) (map (λ (line : MemberLine). line.key) lines ++ rest))) _ once) in
      subst (λ key. list_any (is_of key) lines ≡ false) (sym (same_text_is k x.key same)) (in_lines lines none)),
  entering_once k lines rest (and_right (not (list_any (same_text x.key) (map (λ (line : MemberLine). line.key) lines ++ rest))) _ once),
)
  where
    in_lines : (lines : List MemberLine) → list_any (same_text x.key) (map (λ (line : MemberLine). line.key) lines ++ rest) ≡ false → list_any (is_of x.key) lines ≡ false
    in_lines [] e = refl
    in_lines (y ∷ lines) e =
        let here = or_left (same_text x.key y.key) _ e in
        rw here (in_lines lines (or_right (same_text x.key y.key) _ e))

certified_once : (x y : Text) (lines : List CertLine) → each_once same_pair lines ≡ true → IsOnce (of_pair x y) lines
certified_once x y [] once = tt
certified_once x y (l ∷ lines) once = (
  (λ same.
      let none = not_true _ (and_left (not (list_any (same_pair l) lines)) _ once) in
      let from = same_text_is x l.from (and_left (same_text x l.from) (same_text y l.to) same) in
      let to = same_text_is y l.to (and_right (same_text x l.from) (same_text y l.to) same) in
      (λ i. list_any (of_pair (from i) (to i)) lines) ∙ none),
  certified_once x y lines (and_right (not (list_any (same_pair l) lines)) _ once),
)

pub at_once_by_lines : AtOnceByLines
at_once_by_lines c b sound =
    record {
      over = λ k.
          set_is (λ line. is_of k line && (nat_le (membership_time c b line + lasting c b) (now_of c b) && not (expired c line.key))) (is_of k) (λ line. nat_le (membership_time c b line + lasting c b) (now_of c b) && not (expired c k))
          (λ line. under (is_of k line) _ _ (λ same. ap (λ key. nat_le (membership_time c b line + lasting c b) (now_of c b) && not (expired c key)) (sym (same_text_is k line.key same)))) (entering_lines b) (once k);
      revoked = λ k.
          set_is (λ line. is_of k line && nat_le (membership_time c b line + 2 * lasting c b) (now_of c b)) (is_of k) (λ line. nat_le (membership_time c b line + 2 * lasting c b) (now_of c b)) (λ line. refl) (entering_lines b) (once k);
      ended = λ x y.
          set_is (λ line. of_pair x y line && (nat_le (certification_time c b line + cert_lasting c b) (now_of c b) && live c line.from line.to)) (of_pair x y) (λ line. nat_le (certification_time c b line + cert_lasting c b) (now_of c b) && live c x y)
          (λ line. under (of_pair x y line) _ _ (λ same.
          let from = same_text_is x line.from (and_left (same_text x line.from) (same_text y line.to) same) in
          let to = same_text_is y line.to (and_right (same_text x line.from) (same_text y line.to) same) in
          λ i. nat_le (certification_time c b line + cert_lasting c b) (now_of c b) && live c (sym from i) (sym to i))) b.certifications (certified_once x y b.certifications (sound.0 L14 refl));
    }
  where
    once : (k : Text) → IsOnce (is_of k) (entering_lines b)
    once k = entering_once k (entering_lines b) (map (λ (line : MemberLine). line.key) b.leavers ++ b.excluded) (ap (each_once same_text) (sym parts) ∙ sound.0 L12 refl)
      where
        parts : moving_keys b ≡ map (λ (line : MemberLine). line.key) (entering_lines b) ++ (map (λ (line : MemberLine). line.key) b.leavers ++ b.excluded)
        parts =
            ap (λ l. map (λ (line : MemberLine). line.key) l ++ b.excluded) (sym (append_assoc b.joiners b.actives b.leavers))
            ∙ ap (λ l. l ++ b.excluded) (map-append (λ (line : MemberLine). line.key) (entering_lines b) b.leavers)
            ∙ append_assoc (map (λ (line : MemberLine). line.key) (entering_lines b)) (map (λ (line : MemberLine). line.key) b.leavers) b.excluded

-- who is to be excluded, by the records

pub kicked_fold : KickedFold
kicked_fold c b sound k =
    by_any (kicked_record c b k) (touches k) (λ _. kicked_by (params (b ∷ c)) (now_of c b) (received (b ∷ c) k) (identity_row (b ∷ c) k) (membership_row (b ∷ c) k)) (λ row. refl) (λ r row. refl) (people_records c b) (is_to_be_excluded c k)
    ∙ sym (kicked_by_records c b sound k)
