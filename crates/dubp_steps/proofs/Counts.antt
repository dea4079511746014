-- What the rows of the tables say.
use Rattle.std.proofs.Common.{◌≡◌, ℕ, ◌+◌, ◌*◌, ◌<◌, ◌≤◌, Bool, true, false, cond, not, ◌||◌, ◌&&◌, ◌==◌, List, [], ◌∷◌, ◌++◌, Option, Some, None, option_map, is_some, unwrap_or, map, filter, find, length, count_by, refl, ap, sym, ◌∙◌, subst, true≢false, nat_le, nat_lt, arith, inl, inr}
use Rattle.std.specs.Option.{option_or, option_map_or, MatchOption, IsSomeAnd}
use Rattle.std.specs.List.{list_any, IsDistinct, AllByRecursion}
use Rattle.std.specs.List.Sorted.{IsStrictlySortedBy}
use Rattle.std.specs.Map.{lookup, keys_of}
use Rattle.std.specs.BTreeMap.{is_at}
use Rattle.std.specs.Cmp.Lexicographic.{nat_list_eq_equiv}
use Rattle.std.specs.Ordering.{is_eq, ordering_reverse}
use Rattle.std.specs.declared.cmp.Ordering.TheVariants.{Less, Equal, Greater}
use Rattle.std.proofs.lemmas.List.{length-map}
use Rattle.std.proofs.lemmas.List.Sums.{length-filter}
use Rattle.std.proofs.lemmas.Cmp.{tied_itself}
use Rattle.std.proofs.lemmas.Bool.Decides.{Decides-eqb}
use Rattle.std.proofs.lemmas.Map.Made.{length-from_same_keys}
use Rattle.std.proofs.lemmas.Option.{none-some}
use Rattle.dubp_atoms.specs.Same.{Text, same_text, same_stamp}
use Rattle.dubp_atoms.specs.declared.stamp.Stamp.{Stamp}
use Rattle.dubp_block.specs.declared.block.IdentityLine.{IdentityLine}
use Rattle.dubp_block.specs.declared.block.MemberLine.{MemberLine}
use Rattle.dubp_block.specs.declared.block.RevokedLine.{RevokedLine}
use Rattle.dubp_block.specs.declared.block.CertLine.{CertLine}
use Rattle.dubp_rules.specs.declared.rule.Rule.TheVariants.{G51, G83}
use Rattle.dubp_chain.specs.declared.head.Head.{Head}
use Rattle.dubp_chain.specs.HeadStamp.{head_stamp}
use Rattle.dubp_chain.specs.Words.{names, last_of, each_once}
use Rattle.dubp_chain.specs.Chains.{Chain, params}
use Rattle.dubp_chain.specs.Members.{is_of, member, members}
use Rattle.dubp_chain.specs.Heads.{time_of, heads_of, next_head}
use Rattle.dubp_chain.specs.People.{Written, written_in, last_line, identity, membership, leaving, revoked_by_line, revoked, is_reached}
use Rattle.dubp_chain.specs.Live.{certification, made_of, live, wrote, last_from}
use Rattle.dubp_chain.specs.Tables.{IdentityRow, MembershipRow, CertificationRow, certification_row, fact_time}
use Rattle.dubp_chain.specs.Tables.Due.{Membership, Revocation, Certification}
use Rattle.dubp_validity.specs.Rules.{IsSound}
use Rattle.dubp_lists.proofs.Elements.{and_left, and_right, or_left, or_right, is_false, in_all, last_in, IsIn, in_any, any_in, in_filter, kept_in, list_any-map}
use Rattle.dubp_lists.proofs.InOrder.{same_text_is, same_text_own, members-once}
use Rattle.dubp_lists.proofs.LastLines.{last_any}
use Rattle.std.specs.Prelude.{IfSome}
use Rattle.dubp_steps.specs.AfterLines.{now_of, cert_lasting, certification_time, is_planned, of_pair}
use Rattle.dubp_steps.specs.Ordered.{pair_cmp}
use Rattle.dubp_steps.specs.Counts.{MemberIsOfRow, ExpiredIsOfRow, RevokedIsOfRow, LeavingIsOfRow, LiveAtIsOfRow, LiveStep, MembersAreCount, IsTableOf, ReceivedIsOfTable, StockIsOfTable, IsGreatestWritten, WroteIsGreatest, QueueIsLater, FactStep, NumberedIsFact}
use Rattle.dubp_steps.proofs.Standing.{last_entered, last_moved, entry, some_identity, some_membership, member_has_entry}
use Rattle.dubp_steps.proofs.Planned.{planned_later, lt_earlier}
use Rattle.dubp_steps.proofs.Queue.{made_at, queued_membership, queued_revocation, queued_certification, same_params_certified}
use Rattle.dubp_steps.proofs.Rows.{identity_with, row_with, cert_with}
use Rattle.dubp_steps.proofs.Kicked.{member_named}
use Rattle.dubp_steps.proofs.Lives.{live_is_of_row, received_is_count, stock_is_count}
use Rattle.dubp_steps.proofs.Rising.{same_truth, pair_exact, pair_total}

-- members and memberships

pub member_is_of_row : MemberIsOfRow
member_is_of_row c sound k = by (member c k) (identity c k) (entry c k) (member_has_entry c k) (some_identity c sound k)
  where
    by : (m : Bool) (id : Option (Written IdentityLine)) (e : Option (Written MemberLine)) → (m ≡ true → is_some e ≡ true) → is_some id ≡ is_some e
        → m ≡ option_map_or (λ (row : IdentityRow). row.is_member) (option_map (identity_with m) id) false
    by m None e has same = is_false m (λ is. true≢false (sym (has is) ∙ sym same))
    by m (Some i) e has same = refl

pub expired_is_of_row : ExpiredIsOfRow
expired_is_of_row c sound k = by (leaving c k) (revoked c k) (membership c k) (entry c k) (some_membership c sound k)
  where
    by : (leaves is : Bool) (w e : Option (Written MemberLine)) → is_some w ≡ is_some e
        → option_map_or (λ at. nat_le at (time_of c)) (option_map (λ a. a + (params c).ms_validity) (made_at e)) false
        ≡ option_map_or (λ (row : MembershipRow). nat_le (row.made + (params c).ms_validity) (time_of c)) (option_map (row_with e leaves is) w) false
    by leaves is None None same = refl
    by leaves is None (Some v) same = absurd (true≢false (sym same))
    by leaves is (Some w) None same = absurd (true≢false same)
    by leaves is (Some w) (Some v) same = refl

-- whom a line revokes has entered before
revoked_entered : (c : Chain) → IsSound c → (k : Text) → revoked_by_line c k ≡ true → is_some (entry c k) ≡ true
revoked_entered [] sound k is = absurd (true≢false (sym is))
revoked_entered (b ∷ c) sound k is =
    some_more (last_entered b k) (entry c k)
    (elim (list_any (λ (line : RevokedLine). same_text k line.key) b.revoked) as (λ r. list_any (λ (line : RevokedLine). same_text k line.key) b.revoked ≡ r → (r || revoked_by_line c k) ≡ true → is_some (entry c k) ≡ true) [
      | true ↦ λ e _.
          let line = any_in (λ (line : RevokedLine). same_text k line.key) b.revoked e in
          let rule = in_all _ b.revoked (sound.0 G83 refl) line.0 line.1 in
          sym (some_identity c sound.1 k)
          ∙ subst (λ key. is_some (identity c key) ≡ true) (sym (same_text_is k line.0.key line.2)) (and_left (is_some (identity c line.0.key)) _ rule)
      | false ↦ λ _ older. revoked_entered c sound.1 k older
    ] refl is)
  where
    some_more : (last : Option MemberLine) (e : Option (Written MemberLine)) → is_some e ≡ true → is_some (option_or (option_map (written_in b c) last) e) ≡ true
    some_more None e is = is
    some_more (Some l) e is = refl

pub revoked_is_of_row : RevokedIsOfRow
revoked_is_of_row c sound k = by (revoked_by_line c k) (leaving c k) (membership c k) (entry c k) (some_membership c sound k) (revoked_entered c sound k)
  where
    by : (by_line leaves : Bool) (w e : Option (Written MemberLine)) → is_some w ≡ is_some e → (by_line ≡ true → is_some e ≡ true)
        → (by_line || is_reached c (option_map (λ a. a + 2 * (params c).ms_validity) (made_at e)))
        ≡ option_map_or (λ (row : MembershipRow). row.is_revoked) (option_map (row_with e leaves (by_line || is_reached c (option_map (λ a. a + 2 * (params c).ms_validity) (made_at e)))) w) false
    by true leaves None None same has = absurd (true≢false (sym (has refl)))
    by false leaves None None same has = refl
    by by_line leaves None (Some v) same has = absurd (true≢false (sym same))
    by by_line leaves (Some w) e same has = refl

pub leaving_is_of_row : LeavingIsOfRow
leaving_is_of_row c k = by (leaving c k) (membership c k) (moved c)
  where
    -- who leaves has a line there
    moved : (c : Chain) → leaving c k ≡ true → is_some (membership c k) ≡ true
    moved [] is = absurd (true≢false (sym is))
    moved (b ∷ c) is =
        ap (λ o. is_some (option_or (option_map (written_in b c) o) (membership c k))) (last_moved b k)
        ∙ by_block (last_of (is_of k) b.leavers) (last_entered b k) (membership c k) (list_any (is_of k) b.leavers) (list_any (is_of k) (b.joiners ++ b.actives)) (leaving c k)
        (last_any (is_of k) b.leavers) is (moved c)
      where
        by_block : (leaver comer : Option MemberLine) (w : Option (Written MemberLine)) (leaves enters was : Bool) → is_some leaver ≡ leaves → cond leaves true (cond enters false was) ≡ true → (was ≡ true → is_some w ≡ true)
            → is_some (option_or (option_map (written_in b c) (option_or leaver comer)) w) ≡ true
        by_block (Some l) comer w leaves enters was e is before = refl
        by_block None (Some l) w leaves enters was e is before = refl
        by_block None None w true enters was e is before = absurd (true≢false (sym e))
        by_block None None w false true was e is before = absurd (true≢false (sym is))
        by_block None None w false false was e is before = before is

    by : (leaves : Bool) (w : Option (Written MemberLine)) → (leaves ≡ true → is_some w ≡ true)
        → leaves ≡ option_map_or (λ (row : MembershipRow). row.is_leaving) (option_map (row_with (entry c k) leaves (revoked c k)) w) false
    by leaves None has = is_false leaves (λ e. true≢false (sym (has e)))
    by leaves (Some w) has = refl

-- live pairs at a later time

pub live_at_is_of_row : LiveAtIsOfRow
live_at_is_of_row c now rises x y = by (certification c x y)
  where
    both : (later earlier : Bool) → (later ≡ true → earlier ≡ true) → later ≡ (earlier && later)
    both true earlier then = sym (ap (λ x. x && true) (then refl))
    both false true then = refl
    both false false then = refl

    by : (w : Option (Written CertLine))
        → option_map_or (λ w. nat_lt now (made_of w + (params c).sig_validity)) w false
        ≡ option_map_or (λ (row : CertificationRow). row.is_live && nat_lt now (row.made + (params c).sig_validity))
        (option_map (cert_with (option_map_or (λ w. nat_lt (time_of c) (made_of w + (params c).sig_validity)) w false)) w) false
    by None = refl
    by (Some w) = both _ _ (lt_earlier (made_of w + (params c).sig_validity) (time_of c) now rises)

pub live_step : LiveStep
live_step c b x y = by (last_of (of_pair x y) b.certifications) (certification c x y) (λ w is. ap (λ p. p.sig_validity) (same_params_certified c b x y w is))
  where
    by : (last : Option CertLine) (e : Option (Written CertLine)) → ((w : Written CertLine) → e ≡ Some w → cert_lasting c b ≡ (params c).sig_validity)
        → option_map_or (λ w. nat_lt (now_of c b) (made_of w + cert_lasting c b)) (option_or (option_map (written_in b c) last) e) false
        ≡ option_map_or (λ line. nat_lt (now_of c b) (certification_time c b line + cert_lasting c b)) last (option_map_or (λ w. nat_lt (now_of c b) (made_of w + (params c).sig_validity)) e false)
    by (Some l) e same = refl
    by None None same = refl
    by None (Some w) same = ap (λ l. nat_lt (now_of c b) (made_of w + l)) (same w refl)

-- in the form of std
distinct_of : (ks : List Text) → each_once same_text ks ≡ true → IsDistinct same_text ks
unfolding IsDistinct
distinct_of [] once = tt
distinct_of (k ∷ ks) once = (apart ks (is_not (and_left (not (list_any (same_text k) ks)) _ once)), distinct_of ks (and_right (not (list_any (same_text k) ks)) _ once))
  where
    is_not : not (list_any (same_text k) ks) ≡ true → list_any (same_text k) ks ≡ false
    is_not e = is_false _ (λ h. true≢false (sym e ∙ ap not h))

    apart : (ls : List Text) → list_any (same_text k) ls ≡ false → AllByRecursion (λ y. same_text k y ≡ false) ls
    apart [] e = tt
    apart (l ∷ ls) e = (left (same_text k l) _ e, apart ls (right (same_text k l) _ e))
      where
        left : (x y : Bool) → (x || y) ≡ false → x ≡ false
        left true y e = e
        left false y e = refl

        right : (x y : Bool) → (x || y) ≡ false → y ≡ false
        right true y e = absurd (true≢false e)
        right false y e = e

pub members_are_count : MembersAreCount
members_are_count c keys distinct each =
    length-from_same_keys nat_list_eq_equiv keys (members c) distinct (distinct_of (members c) (members-once c)) (λ a. each a ∙ sym (member_named c a))

-- the queue

pub queue_is_later : QueueIsLater
queue_is_later c sound at (Membership k) e = by (made_at (entry c k)) (sym (queued_membership c sound at k) ∙ e)
  where
    by : (m : Option ℕ) → option_map_or (λ m. is_planned (time_of c) (m + (params c).ms_validity) at) m false ≡ true → nat_lt (time_of c) at ≡ true
    by None e = absurd (true≢false (sym e))
    by (Some m) e = and_right (is_planned (time_of c) (m + (params c).ms_validity) at) _ (sym (planned_later (time_of c) (m + (params c).ms_validity) at) ∙ e)
queue_is_later c sound at (Revocation k) e = by (made_at (entry c k)) (and_right _ _ (sym (queued_revocation c sound at k) ∙ e))
  where
    by : (m : Option ℕ) → option_map_or (λ m. is_planned (time_of c) (m + 2 * (params c).ms_validity) at) m false ≡ true → nat_lt (time_of c) at ≡ true
    by None e = absurd (true≢false (sym e))
    by (Some m) e = and_right (is_planned (time_of c) (m + 2 * (params c).ms_validity) at) _ (sym (planned_later (time_of c) (m + 2 * (params c).ms_validity) at) ∙ e)
queue_is_later c sound at (Certification x y) e = by (certification c x y) (sym (queued_certification c at x y) ∙ e)
  where
    by : (w : Option (Written CertLine)) → option_map_or (λ w. is_planned (time_of c) (made_of w + (params c).sig_validity) at) w false ≡ true → nat_lt (time_of c) at ≡ true
    by None e = absurd (true≢false (sym e))
    by (Some w) e = and_right (is_planned (time_of c) (made_of w + (params c).sig_validity) at) _ (sym (planned_later (time_of c) (made_of w + (params c).sig_validity) at) ∙ e)

-- facts

pub fact_step : FactStep
fact_step c b s =
    elim (same_stamp s (head_stamp h)) as (λ r. option_map (λ h. h.median_time) (cond r (Some h) (find (λ h. same_stamp s (head_stamp h)) (heads_of c))) ≡ cond r (Some (time_of (b ∷ c))) (fact_time c s)) [ true ↦ refl | false ↦ refl ]
  where
    h : Head
    h = next_head (params (b ∷ c)) (length (members (b ∷ c))) (heads_of c) b

-- the first of a number is the first of its stamp
pub numbered_is_fact : NumberedIsFact
numbered_is_fact c n h is = first (heads_of c) is
  where
    stamp_number : (s t : Stamp) → same_stamp s t ≡ true → s.number ≡ t.number
    stamp_number s t e = (Decides-eqb s.number t.number).0 (and_left (s.number == t.number) _ e)

    own_stamp : (s : Stamp) → same_stamp s s ≡ true
    own_stamp s = rw ((Decides-eqb s.number s.number).1 refl, same_text_own s.hash) refl

    found : (g : Head) (gs : List Head) (r : Bool) → cond r (Some g) (find (λ g. g.number == n) gs) ≡ Some h → (g.number == n) ≡ r → (h.number ≡ n)
    found g gs true e same = ap (λ o. (unwrap_or o h).number) (sym e) ∙ (Decides-eqb g.number n).0 same
    found g gs false e same = later gs e
      where
        later : (gs : List Head) → find (λ g. g.number == n) gs ≡ Some h → h.number ≡ n
        later [] e = absurd (none-some h e)
        later (x ∷ xs) e = elim (x.number == n) as (λ r. (x.number == n) ≡ r → cond r (Some x) (find (λ g. g.number == n) xs) ≡ Some h → h.number ≡ n) [
          | true ↦ λ same e. ap (λ o. (unwrap_or o h).number) (sym e) ∙ (Decides-eqb x.number n).0 same
          | false ↦ λ _ e. later xs e
        ] refl e

    first : (hs : List Head) → find (λ g. g.number == n) hs ≡ Some h → option_map (λ g. g.median_time) (find (λ g. same_stamp (head_stamp h) (head_stamp g)) hs) ≡ Some h.median_time
    first [] e = absurd (none-some h e)
    first (g ∷ gs) e =
        elim (g.number == n) as (λ r. (g.number == n) ≡ r → cond r (Some g) (find (λ g. g.number == n) gs) ≡ Some h
        → option_map (λ g. g.median_time) (cond (same_stamp (head_stamp h) (head_stamp g)) (Some g) (find (λ g. same_stamp (head_stamp h) (head_stamp g)) gs)) ≡ Some h.median_time) [
          | true ↦ λ _ e.
              let same : g ≡ h = ap (λ o. unwrap_or o h) e in
              let own : same_stamp (head_stamp h) (head_stamp g) ≡ true = subst (λ x. same_stamp (head_stamp h) (head_stamp x) ≡ true) (sym same) (own_stamp (head_stamp h)) in
              rw own (ap (λ x. Some x.median_time) same)
          | false ↦ λ other e'.
              let apart : same_stamp (head_stamp h) (head_stamp g) ≡ false =
              is_false _ (λ same. true≢false (sym ((Decides-eqb g.number n).1 (sym (stamp_number (head_stamp h) (head_stamp g) same) ∙ found g gs false e' other)) ∙ other)) in
              rw apart (first gs e')
        ] refl e

-- the rows of certifications as a list

module _ (c : Chain) (side other : Text × Text → Text) (both : (p q : Text × Text) → side p ≡ side q → other p ≡ other q → p ≡ q) (k : Text) where
  abbrev Row : Type 0
  Row = (Text × Text) × CertificationRow

  abbrev keeps : Row → Bool
  keeps e = same_text k (other e.0) && e.1.is_live

  abbrev sides : List Row → List Text
  sides es = map (λ (e : Row). side e.0) (filter keeps es)

  -- what a look-up finds is a row
  in_rows : (q : Text × Text) (r : CertificationRow) (es : List Row) → lookup (is_at (pair_cmp q)) es ≡ Some r → IsIn (q, r) es
  in_rows q r [] e = absurd (none-some r e)
  in_rows q r (x ∷ es) e =
      elim (pair_cmp q x.0) as (λ o. pair_cmp q x.0 ≡ o → cond (is_eq o) (Some x.1) (lookup (is_at (pair_cmp q)) es) ≡ Some r → IsIn (q, r) (x ∷ es)) [
        | Less ↦ λ _ e. inr (in_rows q r es e)
        | Equal ↦ λ tied e. inl (λ i. (pair_exact q x.0 tied i, unwrap_or (sym e i) r))
        | Greater ↦ λ _ e. inr (in_rows q r es e)
      ] refl e

  below_is : (p q : Text × Text) → pair_cmp p q ≡ Less → is_eq (pair_cmp q p) ≡ false
  below_is p q less = ap is_eq (pair_total.antisymm q p) ∙ ap (λ o. is_eq (ordering_reverse o)) less

  -- and a row is found
  at_row : (es : List Row) → IsStrictlySortedBy pair_cmp (keys_of es) → (e : Row) → IsIn e es → lookup (is_at (pair_cmp e.0)) es ≡ Some e.1
  unfolding IsStrictlySortedBy
  at_row [] sorted e there = absurd there
  at_row (x ∷ es) sorted e (inl is) =
      let tied : is_eq (pair_cmp e.0 x.0) ≡ true = ap (λ (z : Row). is_eq (pair_cmp e.0 z.0)) (sym is) ∙ ap is_eq (tied_itself pair_total e.0) in
      rw tied (ap (λ (z : Row). Some z.1) (sym is))
  at_row (x ∷ es) sorted e (inr there) =
      let apart : is_eq (pair_cmp e.0 x.0) ≡ false = below_is x.0 e.0 (all_below es sorted.0 there) in
      rw apart (at_row es sorted.1 e there)
    where
      all_below : (es : List Row) → AllByRecursion (λ y. pair_cmp x.0 y ≡ Less) (keys_of es) → IsIn e es → pair_cmp x.0 e.0 ≡ Less
      all_below [] all there = absurd there
      all_below (y ∷ es) all (inl is) = subst (λ (z : Row). pair_cmp x.0 z.0 ≡ Less) (sym is) all.0
      all_below (y ∷ es) all (inr there) = all_below es all.1 there

  sides_apart : (x : Row) → keeps x ≡ true → (es : List Row) → AllByRecursion (λ y. pair_cmp x.0 y ≡ Less) (keys_of es) → AllByRecursion (λ y. same_text (side x.0) y ≡ false) (sides es)
  sides_apart x kept [] all = tt
  sides_apart x kept (y ∷ es) all =
      elim (keeps y) as (λ r. keeps y ≡ r → AllByRecursion (λ z. same_text (side x.0) z ≡ false) (map (λ (e : Row). side e.0) (cond r (y ∷ filter keeps es) (filter keeps es)))) [
        | true ↦ λ e. (here e, sides_apart x kept es all.1)
        | false ↦ λ _. sides_apart x kept es all.1
      ] refl
    where
      here : keeps y ≡ true → same_text (side x.0) (side y.0) ≡ false
      here e =
          is_false _ (λ same.
          let others = sym (same_text_is k (other x.0) (and_left (same_text k (other x.0)) _ kept)) ∙ same_text_is k (other y.0) (and_left (same_text k (other y.0)) _ e) in
          let one = both x.0 y.0 (same_text_is (side x.0) (side y.0) same) others in
          let tied : pair_cmp x.0 y.0 ≡ Equal = ap (pair_cmp x.0) (sym one) ∙ tied_itself pair_total x.0 in
          true≢false (sym (ap is_eq tied) ∙ ap is_eq all.0))

  sides_distinct : (es : List Row) → IsStrictlySortedBy pair_cmp (keys_of es) → IsDistinct same_text (sides es)
  unfolding IsDistinct IsStrictlySortedBy
  sides_distinct [] sorted = tt
  sides_distinct (x ∷ es) sorted =
      elim (keeps x) as (λ r. keeps x ≡ r → IsDistinct same_text (map (λ (e : Row). side e.0) (cond r (x ∷ filter keeps es) (filter keeps es)))) [
        | true ↦ λ e. (sides_apart x e es sorted.0, sides_distinct es sorted.1)
        | false ↦ λ _. sides_distinct es sorted.1
      ] refl

  count_sides : (es : List Row) → length (sides es) ≡ count_by keeps es
  count_sides es = length-map (filter keeps es) (λ (e : Row). side e.0) ∙ length-filter keeps es

  -- the sides are those of the live pairs with k
  sides_named : (es : List Row) → IsTableOf c es → (a : Text) (p : Text × Text) → side p ≡ a → other p ≡ k → names (sides es) a ≡ live c p.0 p.1
  sides_named es t a p side_is other_is = same_truth _ _ there back
    where
      there : names (sides es) a ≡ true → live c p.0 p.1 ≡ true
      there e =
          let h = any_in (λ (x : Row). same_text a (side x.0)) (filter keeps es) (sym (list_any-map (same_text a) (λ (x : Row). side x.0) (filter keeps es)) ∙ e) in
          let g = in_filter keeps es h.0 h.1 in
          let one = both p h.0.0 (side_is ∙ same_text_is a (side h.0.0) h.2) (other_is ∙ same_text_is k (other h.0.0) (and_left (same_text k (other h.0.0)) _ g.1)) in
          live_is_of_row c p.0 p.1
          ∙ ap (λ row. option_map_or (λ (row : CertificationRow). row.is_live) row false) (sym (t.is p.0 p.1) ∙ ap (λ q. lookup (is_at (pair_cmp q)) es) one ∙ at_row es t.sorted h.0 g.0)
          ∙ and_right (same_text k (other h.0.0)) _ g.1

      back : live c p.0 p.1 ≡ true → names (sides es) a ≡ true
      back is = of_row (lookup (is_at (pair_cmp p)) es) refl (ap (λ row. option_map_or (λ (row : CertificationRow). row.is_live) row false) (t.is p.0 p.1) ∙ sym (live_is_of_row c p.0 p.1) ∙ is)
        where
          of_row : (row : Option CertificationRow) → lookup (is_at (pair_cmp p)) es ≡ row → option_map_or (λ (row : CertificationRow). row.is_live) row false ≡ true → names (sides es) a ≡ true
          of_row None e live' = absurd (true≢false (sym live'))
          of_row (Some r) e live' =
              let there' = in_rows p r es e in
              let kept : keeps (p, r) ≡ true = (λ i. same_text k (other_is i) && live' i) ∙ ap (λ x. x && true) (same_text_own k) in
              list_any-map (same_text a) (λ (x : Row). side x.0) (filter keeps es)
              ∙ in_any (λ (x : Row). same_text a (side x.0)) (filter keeps es) (p, r) (kept_in keeps es (p, r) there' kept) (ap (same_text a) side_is ∙ same_text_own a)

pub received_is_of_table : ReceivedIsOfTable
received_is_of_table c es t k =
    sym (count_sides c (λ p. p.0) (λ p. p.1) (λ p q s o i. (s i, o i)) k es)
    ∙ received_is_count c k (sides c (λ p. p.0) (λ p. p.1) (λ p q s o i. (s i, o i)) k es) (sides_distinct c (λ p. p.0) (λ p. p.1) (λ p q s o i. (s i, o i)) k es t.sorted)
    (λ a. sides_named c (λ p. p.0) (λ p. p.1) (λ p q s o i. (s i, o i)) k es t a (a, k) refl refl)

pub stock_is_of_table : StockIsOfTable
stock_is_of_table c es t k =
    sym (count_sides c (λ p. p.1) (λ p. p.0) (λ p q s o i. (o i, s i)) k es)
    ∙ stock_is_count c k (sides c (λ p. p.1) (λ p. p.0) (λ p q s o i. (o i, s i)) k es) (sides_distinct c (λ p. p.1) (λ p. p.0) (λ p q s o i. (o i, s i)) k es t.sorted)
    (λ a. sides_named c (λ p. p.1) (λ p. p.0) (λ p q s o i. (o i, s i)) k es t a (k, a) refl refl)

-- the last block of an issuer

below_length : (test : CertLine → Bool) (c : Chain) → IsSound c → (w : Written CertLine) → last_line (λ b. b.certifications) test c ≡ Some w → w.block.number < length c
below_length test [] sound w e = absurd (none-some w e)
below_length test (b ∷ c) sound w e =
    elim (last_of test b.certifications) as (λ o. option_or (option_map (written_in b c) o) (last_line (λ b. b.certifications) test c) ≡ Some w → w.block.number < length (b ∷ c)) [
      | None ↦ λ e. let h = below_length test c sound.1 w e in omega (arith, h)
      | Some l ↦ λ e.
          let number : b.number ≡ length c = sound.0 G51 refl in
          let is : b.number ≡ w.block.number = ap (λ o. (unwrap_or o w).block.number) e in
          omega (arith, number, is)
    ] e

-- on the lines: no line of the issuer stands in a later block, and one stands in this
record IsGreatest (c : Chain) (a : Text) (n : ℕ) : Type 0 where
  bound : (y : Text) (w : Written CertLine) → certification c a y ≡ Some w → w.block.number ≤ n
  receiver : Text
  line : Written CertLine
  stands : certification c a receiver ≡ Some line
  number : line.block.number ≡ n

abbrev from_a : Text → CertLine → Bool
from_a a line = same_text a line.from

abbrev IsLast : Chain → Text → Option ℕ → Type 0
IsLast c a n = MatchOption n ((y : Text) → certification c a y ≡ None) (IsGreatest c a)

-- a block without a line of the issuer
none_of_pair : (a y : Text) (lines : List CertLine) → last_of (from_a a) lines ≡ None → last_of (of_pair a y) lines ≡ None
none_of_pair a y lines e = no_some (last_of (of_pair a y) lines) (last_any (of_pair a y) lines ∙ none lines (sym (last_any (from_a a) lines) ∙ ap is_some e))
  where
    no_some : (o : Option CertLine) → is_some o ≡ false → o ≡ None
    no_some None e = refl
    no_some (Some x) e = absurd (true≢false e)

    none : (lines : List CertLine) → list_any (from_a a) lines ≡ false → list_any (of_pair a y) lines ≡ false
    none [] e = refl
    none (l ∷ lines) e = let here = or_left (from_a a l) _ e in let rest = none lines (or_right (from_a a l) _ e) in rw (here, rest) refl

wrote_last : (c : Chain) → IsSound c → (a : Text) → IsLast c a (wrote c a)
wrote_last [] sound a = λ y. refl
wrote_last (b ∷ c) sound a =
    elim (last_of (from_a a) b.certifications) as (λ o. last_of (from_a a) b.certifications ≡ o → IsLast (b ∷ c) a (option_map (λ (w : Written CertLine). w.block.number) (option_or (option_map (written_in b c) o) (last_from c a)))) [
      | None ↦ λ none. older none (wrote c a) (wrote_last c sound.1 a)
      | Some l ↦ λ is. newest l is
    ] refl
  where
    same : last_of (from_a a) b.certifications ≡ None → (y : Text) → certification (b ∷ c) a y ≡ certification c a y
    same none y = ap (λ o. option_or (option_map (written_in b c) o) (certification c a y)) (none_of_pair a y b.certifications none)

    older : last_of (from_a a) b.certifications ≡ None → (n : Option ℕ) → IsLast c a n → IsLast (b ∷ c) a n
    older none None last = λ y. same none y ∙ last y
    older none (Some n) last =
        record {
          bound = λ y w e. last.bound y w (sym (same none y) ∙ e);
          receiver = last.receiver;
          line = last.line;
          stands = same none last.receiver ∙ last.stands;
          number = last.number;
        }

    newest : (l : CertLine) → last_of (from_a a) b.certifications ≡ Some l → IsGreatest (b ∷ c) a b.number
    newest l is =
        let there = last_in (from_a a) b.certifications l is in
        let own : of_pair a l.to l ≡ true = (λ i. there.1 i && same_text l.to l.to) ∙ same_text_own l.to in
        let some = some_last (last_of (of_pair a l.to) b.certifications) (last_any (of_pair a l.to) b.certifications ∙ in_any (of_pair a l.to) b.certifications l there.0 own) in
        record {
          bound = λ y w e. let h = below_length (of_pair a y) (b ∷ c) sound w e in let number : b.number ≡ length c = sound.0 G51 refl in omega (arith, h, number);
          receiver = l.to;
          line = written_in b c some.0;
          stands = ap (λ o. option_or (option_map (written_in b c) o) (certification c a l.to)) some.1;
          number = refl;
        }
      where
        some_last : (o : Option CertLine) → is_some o ≡ true → (x : CertLine) × (o ≡ Some x)
        some_last None e = absurd (true≢false (sym e))
        some_last (Some x) e = (x, refl)

pub wrote_is_greatest : WroteIsGreatest
wrote_is_greatest c sound a = of_rows (wrote c a) (wrote_last c sound a)
  where
    of_rows : (n : Option ℕ) → IsLast c a n → MatchOption n ((y : Text) → certification_row c a y ≡ None) (IsGreatestWritten c a)
    of_rows None last = λ y. ap (option_map (cert_with (live c a y))) (last y)
    of_rows (Some n) last =
        record {
          bound = λ y. row_bound y (certification c a y) (last.bound y);
          stands = (last.receiver, row_stands (certification c a last.receiver) last.stands);
        }
      where
        row_bound : (y : Text) (o : Option (Written CertLine)) → ((w : Written CertLine) → o ≡ Some w → w.block.number ≤ n) → IfSome (option_map (cert_with (live c a y)) o) (λ row. row.written ≤ n)
        row_bound y None h = tt
        row_bound y (Some w) h = h w refl

        row_stands : (o : Option (Written CertLine)) → o ≡ Some last.line → IsSomeAnd (option_map (cert_with (live c a last.receiver)) o) (λ row. row.written ≡ n)
        row_stands o e = rw e last.number
