-- What a line of a section of memberships makes of the rows and of the queue.
use Rattle.std.proofs.Common.{◌≡◌, ℕ, ◌+◌, ◌*◌, ◌<◌, ◌≤◌, ◌^◌, Bool, true, false, cond, List, [], ◌∷◌, Option, Some, None, option_map, is_some, nat_le, take, length, get_or, refl, ap, sym, ◌∙◌, subst, true≢false, arith}
use Rattle.std.specs.Prelude.{IfSome, fold}
use Rattle.std.specs.Option.{option_map_or}
use Rattle.std.specs.FinMap.{get-insert, insert}
use Rattle.std.proofs.lemmas.Cmp.{nat_list_cmp_total}
use Rattle.std.proofs.lemmas.List.{take_all}
use Rattle.std.proofs.lemmas.List.Sums.{fold_more}
use Rattle.dubp_atoms.specs.Same.{Text, same_text}
use Rattle.dubp_block.specs.declared.block.Block.{Block}
use Rattle.dubp_block.specs.declared.block.MemberLine.{MemberLine}
use Rattle.dubp_block.specs.declared.block.RevokedLine.{RevokedLine}
use Rattle.dubp_chain.specs.Chains.{Chain}
use Rattle.dubp_chain.specs.Tables.{MembershipRow}
use Rattle.dubp_chain.specs.Tables as chain
use Rattle.dubp_steps.proofs.OfLists.{same_text_is}
use Rattle.dubp_validity.specs.Records.{membership_time}
use Rattle.dubp_mindex.specs.Members.{Members, members, member_at}
use Rattle.dubp_mindex.specs.declared.member.MemberRow.{MemberRow}
use Rattle.dubp_expiry.specs.Entries.{Queued}
use Rattle.dubp_left.specs.Left.{member_entry}
use Rattle.dubp_left.specs.Next.{IsWritten}
use Rattle.dubp_left.specs.declared.next.Next.{Next}
use Rattle.dubp_steps.specs.AfterLines.{now_of, lasting, entered_row, left_row, set_revoked, enter_line, leave_line, revoke_line, enter_entry, enter_queue, revoke_queue}
use Rattle.dubp_steps.specs.Loops.{without_entry, revoked_queue}
use Rattle.dubp_steps.proofs.Rising.{text_tied}
use Rattle.dubp_steps.proofs.Lines.{revoking_replans, each_line_stands}
use Rattle.dubp_people_apply.specs.Held.{Memberships, Waiting, HasMemberships, HasEntries}
use Rattle.dubp_people_apply.specs.Lines.{EndsAreSmall, IsReplaced, Stands}
use Rattle.dubp_people_apply.proofs.Entries.{has_same}
use Rattle.dubp_people_apply.proofs.Small.{entering_small}

-- ---- a row that is put

module _ {M N : List Members → Type 0} (rows : Memberships) (key : Text) where
  pub put_row : (new : MemberRow) (row : MembershipRow) → new ≡ member_entry row → ((s t : List Members) → M s → N (insert (members s) key new ∷ t))
      → HasMemberships M rows → HasMemberships N (λ k. cond (same_text k key) (Some row) (rows k))
  put_row new row is put has = record {
    state = insert (members has.state) key new ∷ [];
    at = put has.state [] has.at;
    has = λ k.
        get-insert nat_list_cmp_total (members has.state) key new k
        ∙ (λ i. cond (text_tied k key i) (Some (is i)) (has.has k i))
        ∙ by (same_text k key) (rows k);
  }
    where
      by : (r : Bool) (o : Option MembershipRow) → cond r (Some (member_entry row)) (option_map member_entry o) ≡ option_map member_entry (cond r (Some row) o)
      by true o = refl
      by false o = refl

pub looked : {M : List Members → Type 0} {rows : Memberships} (row : Option MemberRow) (key : Text) → HasMemberships M rows → ((s : List Members) → M s → row ≡ member_at s key) → row ≡ option_map member_entry (rows key)
looked row key has look = look has.state has.at ∙ has.has key

-- ---- a line of Joiners or Actives

module _ {M N : List Members → Type 0} {Q R : List Queued → Type 0} (c : Chain) (b : Block) (line : MemberLine) (rows : Memberships) (waiting : Waiting) where
  pub entered : (next : Next) (made twice : ℕ) (row : Option MemberRow) → IsWritten c b next → made ≡ membership_time c b line → (made + 2 * next.params.ms_validity < 2 ^ 64 → twice ≡ made + 2 * next.params.ms_validity)
      → ((s : List Members) → M s → row ≡ member_at s line.key)
      → ((w : Waiting) (o : Option MembershipRow) → IsReplaced next.params.ms_validity made line.key row o w → HasEntries Q w → HasEntries R (λ time due. enter_entry next.time next.params.ms_validity made line.key time due (w time due)))
      → ((s t : List Members) → M s → N (insert (members s) line.key (record { last_number = line.stamp.number; made = made; written = b.number; leaving = false; revoked = nat_le twice next.time }) ∷ t))
      → Stands c b M Q rows waiting → Stands c b N R (λ k. enter_line c b k (rows k) line) (λ time due. enter_queue c b time due (waiting time due) line)
  entered next made twice row written made_is twice_is look plan put stands =
      let lasting_is : next.params.ms_validity ≡ lasting c b = ap (λ p. p.ms_validity) written.is_next.params in
      let now_is : next.time ≡ now_of c b = written.is_next.time in
      let small : membership_time c b line + 2 * lasting c b < 2 ^ 64 = entering_small c b written.sound line in
      let twice_same : twice ≡ membership_time c b line + 2 * lasting c b =
      twice_is (subst (λ (p : ℕ × ℕ). p.0 + 2 * p.1 < 2 ^ 64) (λ i. (sym made_is i, sym lasting_is i)) small) ∙ (λ i. made_is i + 2 * lasting_is i) in
      let row_is : row ≡ option_map member_entry (rows line.key) = looked row line.key stands.rows look in
      let replaced : IsReplaced next.params.ms_validity made line.key row (rows line.key) waiting =
      subst (λ (p : ℕ × ℕ). IsReplaced p.0 p.1 line.key row (rows line.key) waiting) (λ i. (sym lasting_is i, sym made_is i))
      (record { is = row_is; ends = stands.ends line.key; small = stands.small line.key; new_small = small }) in
      record {
        rows = put_row rows line.key _ (entered_row c b line) (λ i. record { last_number = line.stamp.number; made = made_is i; written = b.number; leaving = false; revoked = nat_le (twice_same i) (now_is i) }) put stands.rows;
        queue = subst (λ (p : ℕ × (ℕ × ℕ)). HasEntries R (λ time due. enter_entry p.0 p.1.0 p.1.1 line.key time due (waiting time due))) (λ i. (now_is i, (lasting_is i, made_is i))) (plan waiting (rows line.key) replaced stands.queue);
        ends = λ k. (each_line_stands (lasting c b) waiting).enters k (rows k) (stands.ends k) (now_of c b) line.key (entered_row c b line);
        small = λ k. elim (same_text k line.key) as (λ r. IfSome (cond r (Some (entered_row c b line)) (rows k)) (EndsAreSmall (lasting c b))) [ true ↦ small | false ↦ stands.small k ];
      }

-- ---- a row that is changed, where there is one

pub unmapped : (o : Option MembershipRow) → option_map member_entry o ≡ None → o ≡ None
unmapped None e = refl
unmapped (Some r) e = absurd (true≢false (ap is_some e))

pub mapped : (o : Option MembershipRow) (before : MemberRow) → option_map member_entry o ≡ Some before → (r : MembershipRow) × ((o ≡ Some r) × (before ≡ member_entry r))
mapped None before e = absurd (true≢false (sym (ap is_some e)))
mapped (Some r) before e = (r, (refl, ap (λ o. option_map_or (λ (m : MemberRow). m) o before) (sym e)))

module _ (f : MembershipRow → MembershipRow) (key : Text) (rows : Memberships) where
  abbrev pub changed : Memberships
  changed k = cond (same_text k key) (option_map f (rows k)) (rows k)

  pub none_changes : {M : List Members → Type 0} → rows key ≡ None → HasMemberships M rows → HasMemberships M changed
  none_changes {M = M} missing has = subst (HasMemberships M) (λ i k. stays k i) has
    where
      stays : (k : Text) → rows k ≡ changed k
      stays k =
          elim (same_text k key) as (λ r. same_text k key ≡ r → rows k ≡ cond r (option_map f (rows k)) (rows k)) [
            | true ↦ λ e. let none = ap rows (same_text_is k key e) ∙ missing in none ∙ sym (ap (option_map f) none)
            | false ↦ λ _. refl
          ] refl

  pub row_changes : {M N : List Members → Type 0} (r : MembershipRow) (new : MemberRow) → rows key ≡ Some r → new ≡ member_entry (f r) → ((s t : List Members) → M s → N (insert (members s) key new ∷ t))
      → HasMemberships M rows → HasMemberships N changed
  row_changes {N = N} r new there is put has = subst (HasMemberships N) (λ i k. same k i) (put_row rows key new (f r) is put has)
    where
      same : (k : Text) → cond (same_text k key) (Some (f r)) (rows k) ≡ changed k
      same k =
          elim (same_text k key) as (λ t. same_text k key ≡ t → cond t (Some (f r)) (rows k) ≡ cond t (option_map f (rows k)) (rows k)) [
            | true ↦ λ e. sym (ap (option_map f) (ap rows (same_text_is k key e) ∙ there))
            | false ↦ λ _. refl
          ] refl

  still_small : (lasting : ℕ) → ((r : MembershipRow) → (f r).made ≡ r.made) → ((k : Text) → IfSome (rows k) (EndsAreSmall lasting)) → (k : Text) → IfSome (changed k) (EndsAreSmall lasting)
  still_small lasting same small k = elim (same_text k key) as (λ t. IfSome (cond t (option_map f (rows k)) (rows k)) (EndsAreSmall lasting)) [ true ↦ of (rows k) (small k) | false ↦ small k ]
    where
      of : (o : Option MembershipRow) → IfSome o (EndsAreSmall lasting) → IfSome (option_map f o) (EndsAreSmall lasting)
      of None h = tt
      of (Some r) h = let e = same r in omega (arith, e, h)

  pub changes_none : {M : List Members → Type 0} (row : Option MemberRow) → row ≡ None → ((s : List Members) → M s → row ≡ member_at s key) → HasMemberships M rows → HasMemberships M changed
  changes_none row none look has = none_changes (unmapped _ (sym (looked row key has look) ∙ none)) has

  pub changes_some : {M N : List Members → Type 0} (g : MemberRow → MemberRow) → ((r : MembershipRow) → g (member_entry r) ≡ member_entry (f r)) → (row : Option MemberRow) (before : MemberRow) → row ≡ Some before
      → ((s : List Members) → M s → row ≡ member_at s key) → ((s t : List Members) → M s → N (insert (members s) key (g before) ∷ t)) → HasMemberships M rows → HasMemberships N changed
  changes_some g same row before some look put has =
      let r = mapped (rows key) before (sym (looked row key has look) ∙ some) in
      row_changes r.0 (g before) r.1.0 (ap g r.1.1 ∙ same r.0) put has

-- ---- a line of Leavers

module _ (c : Chain) (b : Block) (line : MemberLine) (rows : Memberships) (waiting : Waiting) where
  abbrev after : (List Members → Type 0) → (List Queued → Type 0) → Type 0
  after At Q = Stands c b At Q (λ k. leave_line b k (rows k) line) waiting

  leaving : {M At : List Members → Type 0} {Q : List Queued → Type 0} → Stands c b M Q rows waiting → HasMemberships At (changed (left_row b line) line.key rows)
      → Stands c b At Q (λ k. leave_line b k (rows k) line) waiting
  leaving stands has = record {
    rows = has;
    queue = stands.queue;
    ends = λ k. (each_line_stands (lasting c b) waiting).leaves k (rows k) (stands.ends k) b line;
    small = still_small (left_row b line) line.key rows (lasting c b) (λ r. refl) stands.small;
  }

  pub left_none : {M : List Members → Type 0} {Q : List Queued → Type 0} (row : Option MemberRow) → row ≡ None → ((s : List Members) → M s → row ≡ member_at s line.key) → Stands c b M Q rows waiting → after M Q
  left_none row none look stands = leaving stands (none_changes (left_row b line) line.key rows (unmapped _ (sym (looked row line.key stands.rows look) ∙ none)) stands.rows)

  pub left : {M N : List Members → Type 0} {Q : List Queued → Type 0} (row : Option MemberRow) (before : MemberRow) → row ≡ Some before → ((s : List Members) → M s → row ≡ member_at s line.key)
      → ((s t : List Members) → M s → N (insert (members s) line.key (record before { last_number = line.stamp.number; written = b.number; leaving = true }) ∷ t))
      → Stands c b M Q rows waiting → after N Q
  left row before some look put stands =
      let r = mapped (rows line.key) before (sym (looked row line.key stands.rows look) ∙ some) in
      leaving stands (row_changes (left_row b line) line.key rows r.0 _ r.1.0 (ap (λ (m : MemberRow). record m { last_number = line.stamp.number; written = b.number; leaving = true }) r.1.1) put stands.rows)

-- ---- a line of Revoked

module _ (c : Chain) (b : Block) (line : RevokedLine) (rows : Memberships) (waiting : Waiting) where
  abbrev behind : (List Members → Type 0) → (List Queued → Type 0) → Type 0
  behind At Of = Stands c b At Of (λ k. revoke_line k (rows k) line) (λ time due. revoke_queue due (waiting time due) line)

  revoking : {M At : List Members → Type 0} {Q Of : List Queued → Type 0} → Stands c b M Q rows waiting → HasMemberships At (changed set_revoked line.key rows) → HasEntries Of (revoked_queue (lasting c b) line.key (rows line.key) waiting)
      → Stands c b At Of (λ k. revoke_line k (rows k) line) (λ time due. revoke_queue due (waiting time due) line)
  revoking stands has entries = record {
    rows = has;
    queue = has_same _ _ (revoking_replans (lasting c b) line.key (rows line.key) waiting (stands.ends line.key)) entries;
    ends = λ k. (each_line_stands (lasting c b) waiting).revokes k (rows k) (stands.ends k) line;
    small = still_small set_revoked line.key rows (lasting c b) (λ r. refl) stands.small;
  }

  pub revoked_none : {M : List Members → Type 0} {Q : List Queued → Type 0} (row : Option MemberRow) → row ≡ None → ((s : List Members) → M s → row ≡ member_at s line.key) → Stands c b M Q rows waiting → behind M Q
  revoked_none {Q = Q} row none look stands =
      let missing : rows line.key ≡ None = unmapped _ (sym (looked row line.key stands.rows look) ∙ none) in
      revoking stands (none_changes set_revoked line.key rows missing stands.rows)
      (subst (λ o. HasEntries Q (revoked_queue (lasting c b) line.key o waiting)) (sym missing) stands.queue)

  pub revoked : {M N : List Members → Type 0} {Q R : List Queued → Type 0} (next : Next) (revocation : ℕ) (row : Option MemberRow) (before : MemberRow) → IsWritten c b next → row ≡ Some before
      → (before.made + 2 * next.params.ms_validity < 2 ^ 64 → revocation ≡ before.made + 2 * next.params.ms_validity)
      → ((s : List Members) → M s → row ≡ member_at s line.key)
      → ((w : Waiting) → HasEntries Q w → HasEntries R (without_entry revocation (chain.Due.Revocation line.key) w))
      → ((s t : List Members) → M s → N (insert (members s) line.key (record before { revoked = true }) ∷ t))
      → Stands c b M Q rows waiting → behind N R
  revoked {R = R} next revocation row before written some at look out put stands =
      let lasting_is : next.params.ms_validity ≡ lasting c b = ap (λ p. p.ms_validity) written.is_next.params in
      let r = mapped (rows line.key) before (sym (looked row line.key stands.rows look) ∙ some) in
      let made_is : before.made ≡ r.0.made = ap (λ (m : MemberRow). m.made) r.1.1 in
      let small : r.0.made + 2 * lasting c b < 2 ^ 64 = subst (λ o. IfSome o (EndsAreSmall (lasting c b))) r.1.0 (stands.small line.key) in
      let end : revocation ≡ r.0.made + 2 * lasting c b =
      at (subst (λ (p : ℕ × ℕ). p.0 + 2 * p.1 < 2 ^ 64) (λ i. (sym made_is i, sym lasting_is i)) small) ∙ (λ i. made_is i + 2 * lasting_is i) in
      revoking stands (row_changes set_revoked line.key rows r.0 _ r.1.0 (ap (λ (m : MemberRow). record m { revoked = true }) r.1.1) put stands.rows)
      (subst (λ o. HasEntries R (revoked_queue (lasting c b) line.key o waiting)) (sym r.1.0)
      (subst (λ n. HasEntries R (without_entry n (chain.Due.Revocation line.key) waiting)) end (out waiting stands.queue)))

-- ---- a section, line after line

module _ {M : List Members → Type 0} {Q : List Queued → Type 0} {X : Type 0} (c : Chain) (b : Block) (f : Text → Option MembershipRow → X → Option MembershipRow) (g : ℕ → chain.Due → Bool → X → Bool) (rows : Memberships) (waiting : Waiting) where
  pub one_line_more : (xs : List X) (i : ℕ) (x : X) → i < length xs → x ≡ get_or xs i x
      → Stands c b M Q (λ k. f k (fold (f k) (rows k) (take i xs)) x) (λ time due. g time due (fold (g time due) (waiting time due) (take i xs)) x)
      → Stands c b M Q (λ k. fold (f k) (rows k) (take (i + 1) xs)) (λ time due. fold (g time due) (waiting time due) (take (i + 1) xs))
  one_line_more xs i x within is stands =
      subst (λ (p : Memberships × Waiting). Stands c b M Q p.0 p.1)
      (λ j. (
        λ k. (ap (f k (fold (f k) (rows k) (take i xs))) is ∙ sym (fold_more (f k) (rows k) xs i x within)) j,
        λ time due. (ap (g time due (fold (g time due) (waiting time due) (take i xs))) is ∙ sym (fold_more (g time due) (waiting time due) xs i x within)) j,
      )) stands

-- where only the rows change
module _ {M : List Members → Type 0} {Q : List Queued → Type 0} {X : Type 0} (c : Chain) (b : Block) (f : Text → Option MembershipRow → X → Option MembershipRow) (rows : Memberships) (waiting : Waiting) where
  pub one_row_more : (xs : List X) (i : ℕ) (x : X) → i < length xs → x ≡ get_or xs i x
      → Stands c b M Q (λ k. f k (fold (f k) (rows k) (take i xs)) x) waiting → Stands c b M Q (λ k. fold (f k) (rows k) (take (i + 1) xs)) waiting
  one_row_more xs i x within is stands =
      subst (λ (p : Memberships). Stands c b M Q p waiting) (λ j k. (ap (f k (fold (f k) (rows k) (take i xs))) is ∙ sym (fold_more (f k) (rows k) xs i x within)) j) stands

-- all lines are gone through
pub all_lines : {X : Type 0} (P : List X → Type 0) (xs : List X) (i : ℕ) → i ≤ length xs → length xs ≤ i → P (take i xs) → P xs
all_lines P xs i most least p = subst P (take_all i xs least) p
