-- The records of a chain leave its memberships. Of a block the last line of Joiners or Actives of a key says when its membership was
-- made, and a line of Leavers that it leaves. A key is revoked by a line of Revoked, or by a record of its own where that comes by time
-- alone. Revoked once is revoked for ever: nobody revoked gets a new membership, and the time never falls.
use Rattle.std.proofs.Common.{◌≡◌, ℕ, ◌+◌, ◌*◌, ◌≤◌, Bool, true, false, cond, not, ◌||◌, ◌&&◌, List, [], ◌∷◌, ◌++◌, Option, Some, None, option_map, is_some, unwrap_or, map, filter, refl, ap, sym, ◌∙◌, subst, true≢false, inl, inr, arith, nat_le, leb-true, le-leb, append_assoc}
use Rattle.std.specs.Option.{option_or, option_map_or}
use Rattle.std.specs.List.{list_any}
use Rattle.std.proofs.lemmas.List.Folds.{list_any-append}
use Rattle.std.proofs.lemmas.Map.Views.{any-filter_same}
use Rattle.std.proofs.lemmas.Option.{none-some}
use Rattle.std.proofs.Math.Bool.{and-true}
use Rattle.dubp_atoms.specs.Same.{Text, same_text}
use Rattle.dubp_block.specs.declared.block.Block.{Block}
use Rattle.dubp_block.specs.declared.block.IdentityLine.{IdentityLine}
use Rattle.dubp_block.specs.declared.block.MemberLine.{MemberLine}
use Rattle.dubp_block.specs.declared.block.RevokedLine.{RevokedLine}
use Rattle.dubp_block.specs.declared.block.CertLine.{CertLine}
use Rattle.dubp_rules.specs.declared.rule.Rule.TheVariants.{G77, G82}
use Rattle.dubp_validity.specs.declared.record.Record.TheVariants.{Create, Enter, Exit, Join, Active, Leave, Revoke, Expire, ExpireRev, Cert, CertExpire, Spend, Dividend, Clear}
use Rattle.dubp_chain.specs.Words.{names, last_of}
use Rattle.dubp_chain.specs.Chains.{Chain, params}
use Rattle.dubp_chain.specs.Members.{is_of}
use Rattle.dubp_chain.specs.Heads.{time_of}
use Rattle.dubp_chain.specs.Made.{made, certification_made}
use Rattle.dubp_chain.specs.Money.{Source}
use Rattle.dubp_chain.specs.People.{Written, written_in, last_line, identity_lines, membership_lines, membership, membership_made, leaving, revocation, is_reached, revoked_by_line, revoked}
use Rattle.dubp_validity.specs.PeopleRules.{is_identity_of, NobodyRevokedMoves}
use Rattle.dubp_validity.specs.Records.{transaction_records, records, membership_time, make_record, input_of, identity_keys, is_revoked_by_time}
use Rattle.dubp_chain.specs.Tables.{membership_row}
use Rattle.dubp_validity.specs.Reduced.{ReducedMembership, entered, left, set_revoked, membership_change, reduced_membership, without_number}
use Rattle.dubp_validity.specs.Rules.{IsSound}
use Rattle.dubp_lists.proofs.Elements.{and_left, not_true, or_true, in_all, in_any, any_in, list_any-map, last_in}
use Rattle.dubp_lists.proofs.InOrder.{same_text_is, names_in_order}
use Rattle.dubp_lists.proofs.LastLines.{last_any, last_of-append, time_of-rises}
use Rattle.dubp_lists.proofs.Folds.{Gives, gives_both, left_out, each_left_out, changed, each_changed_by_last, changed_by_last}

-- ---- what a block makes of the membership of k

entered_again : (number : ℕ) (time : MemberLine → ℕ) (y z : MemberLine) (row : Option ReducedMembership)
    → entered number (time z) (entered number (time y) row) ≡ entered number (time z) row
entered_again number time y z row = refl

left_again : (number : ℕ) (row : Option ReducedMembership) → left number (left number row) ≡ left number row
left_again number row = refl

revoked_again : (row : Option ReducedMembership) → option_map set_revoked (option_map set_revoked row) ≡ option_map set_revoked row
revoked_again None = refl
revoked_again (Some r) = refl

-- the last line enters
abbrev enter_by : Chain → Block → Option MemberLine → Option ReducedMembership → Option ReducedMembership
enter_by c b last row = option_map_or (λ line. entered b.number (membership_time c b line) row) last row

abbrev leave_if : ℕ → Bool → Option ReducedMembership → Option ReducedMembership
leave_if number is row = cond is (left number row) row

abbrev revoke_if : Bool → Option ReducedMembership → Option ReducedMembership
revoke_if is row = cond is (option_map set_revoked row) row

-- a line of Revoked names k
abbrev has_revoked : Block → Text → Bool
has_revoked b k = list_any (λ (line : RevokedLine). same_text k line.key) b.revoked

-- k has a record of its revocation by time
abbrev is_recorded : Chain → Block → Text → Bool
is_recorded c b k = list_any (same_text k) (filter (is_revoked_by_time c b) (identity_keys (b ∷ c)))

abbrev after_block : Chain → Block → Text → Option ReducedMembership → Option ReducedMembership
after_block c b k row =
    revoke_if (is_recorded c b k)
    (revoke_if (has_revoked b k)
    (leave_if b.number (list_any (is_of k) b.leavers)
    (enter_by c b (last_of (is_of k) b.actives) (enter_by c b (last_of (is_of k) b.joiners) row))))

-- all other records leave it
block_gives : (c : Chain) (b : Block) (k : Text) → Gives (membership_change b.number k) (records c b) (after_block c b k)
block_gives c b k =
    let change = membership_change b.number k in
    let time = membership_time c b in
    gives_both change
    (gives_both change (left_out change (λ (line : IdentityLine). Create line.key line.uid line.stamp) (λ line row. refl) b.identities)
    (gives_both change (each_changed_by_last change (λ (line : MemberLine) row. entered b.number (time line) row) (entered_again b.number time) (λ (line : MemberLine). Enter line.key ∷ Join line.key (time line) ∷ []) (is_of k) (λ line row. refl) b.joiners)
    (gives_both change (changed_by_last change (λ (line : MemberLine) row. entered b.number (time line) row) (entered_again b.number time) (λ (line : MemberLine). Active line.key (time line)) (is_of k) (λ line row. refl) b.actives)
    (gives_both change (changed change (left b.number) (left_again b.number) (λ (line : MemberLine). Leave line.key (time line)) (is_of k) (λ line row. refl) b.leavers)
    (gives_both change (changed change (option_map set_revoked) revoked_again (λ (line : RevokedLine). Revoke line.key) (λ (line : RevokedLine). same_text k line.key) (λ line row. refl) b.revoked)
    (gives_both change (left_out change Exit (λ key row. refl) b.excluded)
    (left_out change (λ (line : CertLine). Cert line.from line.to (unwrap_or (certification_made c b line) 0)) (λ line row. refl) b.certifications)))))))
    (gives_both change (left_out change Expire (λ key row. refl) _)
    (gives_both change (changed change (option_map set_revoked) revoked_again ExpireRev (same_text k) (λ key row. refl) (filter (is_revoked_by_time c b) (identity_keys (b ∷ c))))
    (gives_both change (left_out change (λ (p : Text × Text). CertExpire p.0 p.1) (λ p row. refl) _)
    (gives_both change (each_left_out change (transaction_records c b)
    (λ tx. gives_both change (left_out change Spend (λ input row. refl) tx.inputs) (left_out change make_record (λ s row. refl) _)) b.transactions)
    (gives_both change (left_out change (λ (s : Source). Dividend (input_of s)) (λ s row. refl) _)
    (left_out change (λ (s : Source). Clear (input_of s)) (λ s row. refl) _))))))

-- ---- the last lines of a key, with one block more

-- its last line of Joiners or Actives in a block, and in a chain
abbrev entering_lines : Block → List MemberLine
entering_lines b = b.joiners ++ b.actives

abbrev last_entered : Block → Text → Option MemberLine
last_entered b k = last_of (is_of k) (entering_lines b)

abbrev entry : Chain → Text → Option (Written MemberLine)
entry c k = last_line entering_lines (is_of k) c

-- its last line of a block: in Leavers, or else as above
last_moved : (b : Block) (k : Text) → last_of (is_of k) (membership_lines b) ≡ option_or (last_of (is_of k) b.leavers) (last_entered b k)
last_moved b k = ap (last_of (is_of k)) (sym (append_assoc b.joiners b.actives b.leavers)) ∙ last_of-append (is_of k) (entering_lines b) b.leavers

-- who has no membership has no such line
entry_none : (c : Chain) (k : Text) → membership c k ≡ None → entry c k ≡ None
entry_none [] k none = refl
entry_none (b ∷ c) k none =
    by_cases (last_of (is_of k) b.leavers) (last_entered b k) (membership c k) (entry c k) (entry_none c k)
    (ap (λ o. option_or (option_map (written_in b c) o) (membership c k)) (sym (last_moved b k)) ∙ none)
  where
    by_cases : (leaver comer : Option MemberLine) (w e : Option (Written MemberLine)) → (w ≡ None → e ≡ None)
        → option_or (option_map (written_in b c) (option_or leaver comer)) w ≡ None → option_or (option_map (written_in b c) comer) e ≡ None
    by_cases leaver None w e before none = before (older leaver w none)
      where
        older : (leaver : Option MemberLine) (w : Option (Written MemberLine)) → option_or (option_map (written_in b c) (option_or leaver None)) w ≡ None → w ≡ None
        older None w none = none
        older (Some l) w none = absurd (none-some (written_in b c l) (sym none))
    by_cases None (Some l) w e before none = absurd (none-some (written_in b c l) (sym none))
    by_cases (Some m) (Some l) w e before none = absurd (none-some (written_in b c m) (sym none))

-- who has a membership has an identity
has_identity : (c : Chain) → IsSound c → (k : Text) → is_some (membership c k) ≡ true → list_any (λ (line : IdentityLine). same_text k line.key) (identity_lines c) ≡ true
has_identity [] sound k some = absurd (true≢false (sym some))
has_identity (b ∷ c) sound k some =
    elim (last_of (is_of k) (membership_lines b)) as (λ o. last_of (is_of k) (membership_lines b) ≡ o → is_some (option_or (option_map (written_in b c) o) (membership c k)) ≡ true → list_any (λ (line : IdentityLine). same_text k line.key) (identity_lines (b ∷ c)) ≡ true) [
      | Some line ↦ λ e _.
          let last = last_in (is_of k) (membership_lines b) line e in
          let identity = any_in (is_identity_of line) (identity_lines (b ∷ c)) (in_all _ (membership_lines b) (sound.0 G82 refl) line last.0) in
          in_any (λ (line : IdentityLine). same_text k line.key) (identity_lines (b ∷ c)) identity.0 identity.1
          (subst (λ key. same_text key identity.0.key ≡ true) (sym (same_text_is k line.key last.1)) (and_left (same_text line.key identity.0.key) _ identity.2))
      | None ↦ λ _ older.
          list_any-append (λ (line : IdentityLine). same_text k line.key) b.identities (identity_lines c)
          ∙ or_true _ _ (inr (has_identity c sound.1 k older))
    ] refl some

-- ---- who is revoked

-- nobody revoked moves
unrevoked : (c : Chain) (b : Block) → NobodyRevokedMoves c b → (k : Text) → list_any (is_of k) (membership_lines b) ≡ true → revoked c k ≡ false
unrevoked c b rule k moves =
    let line = any_in (is_of k) (membership_lines b) moves in
    subst (λ key. revoked c key ≡ false) (sym (same_text_is k line.0.key line.2)) (not_true _ (in_all _ (membership_lines b) rule line.0 line.1))

-- a block moves a key by its last line there
moves : (b : Block) (k : Text) → is_some (option_or (last_of (is_of k) b.leavers) (last_entered b k)) ≡ list_any (is_of k) (membership_lines b)
moves b k = ap is_some (sym (last_moved b k)) ∙ last_any (is_of k) (membership_lines b)

-- when an entry was made
abbrev made_at : Option (Written MemberLine) → Option ℕ
made_at entry = option_map (λ w. unwrap_or (made w.before w.block w.line.stamp) 0) entry

-- whether a membership that was made then is revoked by time
abbrev is_over : ℕ → ℕ → Option ℕ → Bool
is_over now lasting at = option_map_or (λ due. nat_le due now) (option_map (λ at. at + 2 * lasting) at) false

over_later : (before now lasting : ℕ) (at : Option ℕ) → before ≤ now → is_over before lasting at ≡ true → is_over now lasting at ≡ true
over_later before now lasting None rises over = over
over_later before now lasting (Some at) rises over = let h = leb-true _ _ over in le-leb _ _ (omega (arith, rises, h))

some_or : {X : Type 0} (o : Option X) (x : X) → is_some (option_or o (Some x)) ≡ true
some_or None x = refl
some_or (Some y) x = refl

-- who is revoked on a chain is so with one block more: a new entry would break a rule
stays_revoked : (c : Chain) (b : Block) → NobodyRevokedMoves c b → (k : Text) → revoked c k ≡ true → revoked (b ∷ c) k ≡ true
stays_revoked [] b rule k is = absurd (true≢false (sym is))
stays_revoked (a ∷ c) b rule k is =
    elim (revoked_by_line (a ∷ c) k) as (λ r. revoked_by_line (a ∷ c) k ≡ r → (r || is_reached (a ∷ c) (revocation (a ∷ c) k)) ≡ true → revoked (b ∷ a ∷ c) k ≡ true) [
      | true ↦ λ by_line _. or_true _ _ (inl (or_true (has_revoked b k) _ (inr by_line)))
      | false ↦ λ _ by_time. or_true _ _ (inr (still by_time))
    ] refl is
  where
    still : is_reached (a ∷ c) (revocation (a ∷ c) k) ≡ true → is_reached (b ∷ a ∷ c) (revocation (b ∷ a ∷ c) k) ≡ true
    still over =
        elim (last_entered b k) as (λ last. last_entered b k ≡ last
        → is_over (time_of (b ∷ a ∷ c)) (params (a ∷ c)).ms_validity (made_at (option_or (option_map (written_in b (a ∷ c)) last) (entry (a ∷ c) k))) ≡ true) [
          | None ↦ λ _. over_later (time_of (a ∷ c)) (time_of (b ∷ a ∷ c)) (params (a ∷ c)).ms_validity (made_at (entry (a ∷ c) k)) (time_of-rises b (a ∷ c)) over
          | Some line ↦ λ e.
              let moved : list_any (is_of k) (membership_lines b) ≡ true =
              sym (moves b k) ∙ ap (λ o. is_some (option_or (last_of (is_of k) b.leavers) o)) e ∙ some_or (last_of (is_of k) b.leavers) line in
              absurd (true≢false (sym is ∙ unrevoked (a ∷ c) b rule k moved))
        ] refl

-- a key that has an identity has a record of its revocation exactly where that comes by time with b
recorded-is : (c : Chain) (b : Block) (k : Text) → names (identity_keys (b ∷ c)) k ≡ true
    → is_recorded c b k ≡ (revoked (b ∷ c) k && (not (revoked c k) && not (has_revoked b k)))
recorded-is c b k has =
    any-filter_same (same_text k) (is_revoked_by_time c b) (is_revoked_by_time c b k) (λ x same. ap (is_revoked_by_time c b) (sym (same_text_is k x same))) (identity_keys (b ∷ c))
    ∙ ap (λ r. is_revoked_by_time c b k && r) has
    ∙ and-true (is_revoked_by_time c b k)
    ∙ ap (λ r. revoked (b ∷ c) k && (not (revoked c k) && not r)) (list_any-map (same_text k) (λ (line : RevokedLine). line.key) b.revoked)

-- who has a membership with b is revoked there who was so before, by a line of b, or as is recorded
revoked-is : (c : Chain) (b : Block) → IsSound (b ∷ c) → (k : Text) → is_some (membership (b ∷ c) k) ≡ true
    → ((revoked c k || has_revoked b k) || is_recorded c b k) ≡ revoked (b ∷ c) k
revoked-is c b sound k some =
    by_cases (revoked c k) (has_revoked b k) (revoked (b ∷ c) k) (is_recorded c b k)
    (recorded-is c b k (names_in_order k (map (λ line. line.key) (identity_lines (b ∷ c)))
    (list_any-map (same_text k) (λ (line : IdentityLine). line.key) (identity_lines (b ∷ c)) ∙ has_identity (b ∷ c) sound k some)))
    (stays_revoked c b (sound.0 G77 refl) k)
    (λ by_line. or_true _ _ (inl (or_true (has_revoked b k) _ (inl by_line))))
  where
    by_cases : (was by_line is recorded : Bool) → recorded ≡ (is && (not was && not by_line)) → (was ≡ true → is ≡ true) → (by_line ≡ true → is ≡ true)
        → ((was || by_line) || recorded) ≡ is
    by_cases true by_line is recorded e stays line = sym (stays refl)
    by_cases false true is recorded e stays line = sym (line refl)
    by_cases false false is recorded e stays line = e ∙ and-true is

-- ---- the law

abbrev row_of : ℕ → ℕ → Bool → Bool → ReducedMembership
row_of made written is_leaving is_revoked = record { made = made; written = written; is_leaving = is_leaving; is_revoked = is_revoked }

abbrev row_with : ℕ → Bool → Bool → Written MemberLine → ReducedMembership
row_with made is_leaving is_revoked w = row_of made w.block.number is_leaving is_revoked

abbrev time_entered : Option (Written MemberLine) → ℕ
time_entered entry = unwrap_or (made_at entry) 0

-- a row that is there becomes revoked by a line or by a record
revokes : (by_line recorded was is : Bool) (made written : ℕ) (leaves : Bool) → ((was || by_line) || recorded) ≡ is
    → revoke_if recorded (revoke_if by_line (Some (row_of made written leaves was))) ≡ Some (row_of made written leaves is)
revokes by_line recorded was is made written leaves e = each by_line recorded was ∙ ap (λ r. Some (row_of made written leaves r)) e
  where
    each : (by_line recorded was : Bool)
        → revoke_if recorded (revoke_if by_line (Some (row_of made written leaves was))) ≡ Some (row_of made written leaves ((was || by_line) || recorded))
    each true true true = refl
    each true true false = refl
    each true false true = refl
    each true false false = refl
    each false true true = refl
    each false true false = refl
    each false false true = refl
    each false false false = refl

none_revoked : (by_line recorded : Bool) → revoke_if recorded (revoke_if by_line None) ≡ None
none_revoked true true = refl
none_revoked true false = refl
none_revoked false true = refl
none_revoked false false = refl

-- the rows by cases: the block has a last line of the key in Joiners or Actives, one in Leavers, and the chain a membership
after_is : (c : Chain) (b : Block) (comer leaver : Option MemberLine) (w e : Option (Written MemberLine)) (leaves was by_line recorded is : Bool)
    → (w ≡ None → e ≡ None)
    → (is_some (option_or leaver comer) ≡ true → was ≡ false)
    → (is_some (option_or (option_map (written_in b c) (option_or leaver comer)) w) ≡ true → ((was || by_line) || recorded) ≡ is)
    → revoke_if recorded (revoke_if by_line (leave_if b.number (is_some leaver) (enter_by c b comer (option_map (row_with (time_entered e) leaves was) w))))
    ≡ option_map (row_with (time_entered (option_or (option_map (written_in b c) comer) e)) (cond (is_some leaver) true (cond (is_some comer) false leaves)) is)
    (option_or (option_map (written_in b c) (option_or leaver comer)) w)
after_is c b None None None e leaves was by_line recorded is none free revoked' = none_revoked by_line recorded
after_is c b None None (Some w) e leaves was by_line recorded is none free revoked' =
    revokes by_line recorded was is (time_entered e) w.block.number leaves (revoked' refl)
after_is c b None (Some l) None e leaves was by_line recorded is none free revoked' =
    revokes by_line recorded false is 0 b.number true (subst (λ r. ((r || by_line) || recorded) ≡ is) (free refl) (revoked' refl))
    ∙ ap (λ e. Some (row_of (time_entered e) b.number true is)) (sym (none refl))
after_is c b None (Some l) (Some w) e leaves was by_line recorded is none free revoked' =
    revokes by_line recorded was is (time_entered e) b.number true (revoked' refl)
after_is c b (Some x) None None e leaves was by_line recorded is none free revoked' =
    revokes by_line recorded false is (membership_time c b x) b.number false (subst (λ r. ((r || by_line) || recorded) ≡ is) (free refl) (revoked' refl))
after_is c b (Some x) None (Some w) e leaves was by_line recorded is none free revoked' =
    revokes by_line recorded was is (membership_time c b x) b.number false (revoked' refl)
after_is c b (Some x) (Some l) None e leaves was by_line recorded is none free revoked' =
    revokes by_line recorded false is (membership_time c b x) b.number true (subst (λ r. ((r || by_line) || recorded) ≡ is) (free refl) (revoked' refl))
after_is c b (Some x) (Some l) (Some w) e leaves was by_line recorded is none free revoked' =
    revokes by_line recorded was is (membership_time c b x) b.number true (revoked' refl)

-- the last of Joiners and the last of Actives, in turn
enters_by_last : (c : Chain) (b : Block) (k : Text) (row : Option ReducedMembership)
    → enter_by c b (last_of (is_of k) b.actives) (enter_by c b (last_of (is_of k) b.joiners) row) ≡ enter_by c b (last_entered b k) row
enters_by_last c b k row =
    either (last_of (is_of k) b.actives) (last_of (is_of k) b.joiners) ∙ ap (λ last. enter_by c b last row) (sym (last_of-append (is_of k) b.joiners b.actives))
  where
    either : (active joiner : Option MemberLine) → enter_by c b active (enter_by c b joiner row) ≡ enter_by c b (option_or active joiner) row
    either None joiner = refl
    either (Some l) None = refl
    either (Some l) (Some m) = refl

-- the row of a chain
row_at-is : (c : Chain) (k : Text) → option_map without_number (membership_row c k) ≡ option_map (row_with (time_entered (entry c k)) (leaving c k) (revoked c k)) (membership c k)
row_at-is c k = by_cases (membership c k)
  where
    by_cases : (w : Option (Written MemberLine))
        → option_map without_number (option_map (λ w. record { last_number = w.line.stamp.number; made = unwrap_or (membership_made c k) 0; written = w.block.number; is_leaving = leaving c k; is_revoked = revoked c k }) w)
        ≡ option_map (row_with (time_entered (entry c k)) (leaving c k) (revoked c k)) w
    by_cases None = refl
    by_cases (Some w) = refl

pub memberships_are : (c : Chain) → IsSound c → (k : Text) → reduced_membership c k ≡ option_map without_number (membership_row c k)
memberships_are [] sound k = refl
memberships_are (b ∷ c) sound k =
    let row = option_map (row_with (time_entered (entry c k)) (leaving c k) (revoked c k)) (membership c k) in
    (block_gives c b k).at (reduced_membership c k)
    ∙ ap (after_block c b k) (memberships_are c sound.1 k ∙ row_at-is c k)
    ∙ ap (λ r. revoke_if (is_recorded c b k) (revoke_if (has_revoked b k) (leave_if b.number (list_any (is_of k) b.leavers) r))) (enters_by_last c b k row)
    ∙ ap (λ leaves. revoke_if (is_recorded c b k) (revoke_if (has_revoked b k) (leave_if b.number leaves (enter_by c b (last_entered b k) row)))) (sym (last_any (is_of k) b.leavers))
    ∙ after_is c b (last_entered b k) (last_of (is_of k) b.leavers) (membership c k) (entry c k) (leaving c k) (revoked c k) (has_revoked b k) (is_recorded c b k) (revoked (b ∷ c) k)
    (entry_none c k)
    (λ some. unrevoked c b (sound.0 G77 refl) k (sym (moves b k) ∙ some))
    (λ some. revoked-is c b sound k (ap (λ o. is_some (option_or (option_map (written_in b c) o) (membership c k))) (last_moved b k) ∙ some))
    ∙ (λ i. option_map (row_with (time_entered (entry (b ∷ c) k)) (cond (last_any (is_of k) b.leavers i) true (cond (last_any (is_of k) (entering_lines b) i) false (leaving c k))) (revoked (b ∷ c) k)) (option_or (option_map (written_in b c) (sym (last_moved b k) i)) (membership c k)))
    ∙ sym (row_at-is (b ∷ c) k)
