-- What a section makes of what stands at a key: of the lines that name it the last counts.
use Rattle.std.proofs.Common.{◌≡◌, ℕ, ◌+◌, ◌*◌, Bool, true, false, cond, List, [], ◌∷◌, Option, Some, None, option_map, is_some, fold, refl, ap, sym, ◌∙◌}
use Rattle.std.specs.Option.{option_or, option_map_or}
use Rattle.std.specs.List.{list_any}
use Rattle.dubp_atoms.specs.Same.{Text, same_text}
use Rattle.dubp_block.specs.declared.block.Block.{Block}
use Rattle.dubp_block.specs.declared.block.IdentityLine.{IdentityLine}
use Rattle.dubp_block.specs.declared.block.MemberLine.{MemberLine}
use Rattle.dubp_block.specs.declared.block.RevokedLine.{RevokedLine}
use Rattle.dubp_block.specs.declared.block.CertLine.{CertLine}
use Rattle.dubp_chain.specs.Words.{names, last_of}
use Rattle.dubp_chain.specs.Chains.{Chain}
use Rattle.dubp_chain.specs.Members.{is_of}
use Rattle.dubp_validity.specs.Records.{membership_time}
use Rattle.dubp_chain.specs.Tables.{IdentityRow, MembershipRow, CertificationRow, is_queued}
use Rattle.dubp_chain.specs.Tables.Due.{Membership, Revocation, Certification}
use Rattle.dubp_lists.proofs.LastLines.{last_any, last_of-append}
use Rattle.dubp_steps.specs.AfterLines.{now_of, lasting, cert_lasting, of_pair, certification_time, created, set_member, create_line, join_line, exclude_line, identity_after_lines, entered_row, left_row, set_revoked, enter_line, leave_line, revoke_line, membership_after_lines, certified_row, certify_line, certification_after_lines, is_planned, enter_queue, revoke_queue, certify_queue, queue_after_lines}
use Rattle.dubp_steps.proofs.Standing.{last_entered}

-- folds

module _ {Row Y : Type 0} (change : Row → Y → Row) where
  -- lines that leave the row
  pub leaves : ((y : Y) (row : Row) → change row y ≡ row) → (ys : List Y) (row : Row) → fold change row ys ≡ row
  leaves each [] row = refl
  leaves each (y ∷ ys) row = leaves each ys (change row y) ∙ each y row

  -- what a later line makes does not depend on what an earlier one made
  module _ (test : Y → Bool) (f : Y → Row → Row) (again : (y z : Y) (row : Row) → f z (f y row) ≡ f z row) (each : (y : Y) (row : Row) → change row y ≡ cond (test y) (f y row) row) where
    later : (b : Bool) (y : Y) (last : Option Y) (row : Row)
        → option_map_or (λ z. f z (cond b (f y row) row)) last (cond b (f y row) row) ≡ option_map_or (λ z. f z row) (option_or last (cond b (Some y) None)) row
    later true y None row = refl
    later false y None row = refl
    later true y (Some z) row = again y z row
    later false y (Some z) row = refl

    pub by_last : (ys : List Y) (row : Row) → fold change row ys ≡ option_map_or (λ y. f y row) (last_of test ys) row
    by_last [] row = refl
    by_last (y ∷ ys) row =
        by_last ys (change row y)
        ∙ ap (λ r. option_map_or (λ z. f z r) (last_of test ys) r) (each y row)
        ∙ later (test y) y (last_of test ys) row

  -- each line that names the row makes the same of it
  pub by_any : (test : Y → Bool) (f : Row → Row) → ((row : Row) → f (f row) ≡ f row) → ((y : Y) (row : Row) → change row y ≡ cond (test y) (f row) row)
      → (ys : List Y) (row : Row) → fold change row ys ≡ cond (list_any test ys) (f row) row
  by_any test f again each ys row = by_last test (λ _ row. f row) (λ y z row. again row) each ys row ∙ some (last_of test ys) ∙ ap (λ b. cond b (f row) row) (last_any test ys)
    where
      some : (last : Option Y) → option_map_or (λ _. f row) last row ≡ cond (is_some last) (f row) row
      some None = refl
      some (Some y) = refl

-- the last of two sections
twice : {Row Y : Type 0} (f : Y → Row) (first second : Option Y) (row : Row) → option_map_or f second (option_map_or f first row) ≡ option_map_or f (option_or second first) row
twice f first None row = refl
twice f first (Some y) row = refl

entering_twice : {Row : Type 0} (f : MemberLine → Row) (b : Block) (k : Text) (row : Row)
    → option_map_or f (last_of (is_of k) b.actives) (option_map_or f (last_of (is_of k) b.joiners) row) ≡ option_map_or f (last_entered b k) row
entering_twice f b k row =
    twice f (last_of (is_of k) b.joiners) (last_of (is_of k) b.actives) row
    ∙ ap (λ last. option_map_or f last row) (sym (last_of-append (is_of k) b.joiners b.actives))

-- identities

member_again : (is : Bool) (row : Option IdentityRow) → option_map (set_member is) (option_map (set_member is) row) ≡ option_map (set_member is) row
member_again is None = refl
member_again is (Some r) = refl

abbrev pub member_if : Bool → Bool → Option IdentityRow → Option IdentityRow
member_if b is row = cond b (option_map (set_member is) row) row

pub identity_after_lines-is : (b : Block) (k : Text) (row : Option IdentityRow)
    → identity_after_lines b k row
    ≡ member_if (names b.excluded k) false
    (member_if (list_any (is_of k) b.joiners) true
    (option_map_or (λ line. Some (created b.number line)) (last_of (λ (line : IdentityLine). same_text k line.key) b.identities) row))
identity_after_lines-is b k row =
    by_any (exclude_line k) (same_text k) (option_map (set_member false)) (member_again false) (λ key row. refl) b.excluded _
    ∙ ap (member_if (names b.excluded k) false)
    (by_any (join_line k) (is_of k) (option_map (set_member true)) (member_again true) (λ line row. refl) b.joiners _
    ∙ ap (member_if (list_any (is_of k) b.joiners) true)
    (by_last (create_line b.number k) (λ (line : IdentityLine). same_text k line.key) (λ line _. Some (created b.number line)) (λ y z row. refl) (λ line row. refl) b.identities row))

-- memberships

left_again : (b : Block) (y z : MemberLine) (row : Option MembershipRow) → option_map (left_row b z) (option_map (left_row b y) row) ≡ option_map (left_row b z) row
left_again b y z None = refl
left_again b y z (Some r) = refl

revoked_again : (row : Option MembershipRow) → option_map set_revoked (option_map set_revoked row) ≡ option_map set_revoked row
revoked_again None = refl
revoked_again (Some r) = refl

abbrev pub has_revoked : Block → Text → Bool
has_revoked b k = list_any (λ (line : RevokedLine). same_text k line.key) b.revoked

abbrev pub revoke_if : Bool → Option MembershipRow → Option MembershipRow
revoke_if is row = cond is (option_map set_revoked row) row

abbrev pub leave_by : Block → Option MemberLine → Option MembershipRow → Option MembershipRow
leave_by b last row = option_map_or (λ line. option_map (left_row b line) row) last row

abbrev pub enter_by : Chain → Block → Option MemberLine → Option MembershipRow → Option MembershipRow
enter_by c b last row = option_map_or (λ line. Some (entered_row c b line)) last row

pub membership_after_lines-is : (c : Chain) (b : Block) (k : Text) (row : Option MembershipRow)
    → membership_after_lines c b k row ≡ revoke_if (has_revoked b k) (leave_by b (last_of (is_of k) b.leavers) (enter_by c b (last_entered b k) row))
membership_after_lines-is c b k row =
    by_any (revoke_line k) (λ (line : RevokedLine). same_text k line.key) (option_map set_revoked) revoked_again (λ line row. refl) b.revoked _
    ∙ ap (revoke_if (has_revoked b k))
    (by_last (leave_line b k) (is_of k) (λ line row. option_map (left_row b line) row) (left_again b) (λ line row. refl) b.leavers _
    ∙ ap (leave_by b (last_of (is_of k) b.leavers))
    (entered b.actives (fold (enter_line c b k) row b.joiners)
    ∙ ap (enter_by c b (last_of (is_of k) b.actives)) (entered b.joiners row)
    ∙ entering_twice (λ line. Some (entered_row c b line)) b k row))
  where
    entered : (lines : List MemberLine) (row : Option MembershipRow) → fold (enter_line c b k) row lines ≡ enter_by c b (last_of (is_of k) lines) row
    entered lines row = by_last (enter_line c b k) (is_of k) (λ line _. Some (entered_row c b line)) (λ y z row. refl) (λ line row. refl) lines row

-- certifications

pub certification_after_lines-is : (c : Chain) (b : Block) (x y : Text) (row : Option CertificationRow)
    → certification_after_lines c b x y row ≡ option_map_or (λ line. Some (certified_row c b line)) (last_of (of_pair x y) b.certifications) row
certification_after_lines-is c b x y row =
    by_last (certify_line c b x y) (of_pair x y) (λ line _. Some (certified_row c b line)) (λ y z row. refl) (λ line row. refl) b.certifications row

-- the queue

abbrev pub planned_expiry : Chain → Block → ℕ → MemberLine → Bool
planned_expiry c b at line = is_planned (now_of c b) (membership_time c b line + lasting c b) at

abbrev pub planned_revocation : Chain → Block → ℕ → MemberLine → Bool
planned_revocation c b at line = is_planned (now_of c b) (membership_time c b line + 2 * lasting c b) at

abbrev pub planned_end : Chain → Block → ℕ → CertLine → Bool
planned_end c b at line = is_planned (now_of c b) (certification_time c b line + cert_lasting c b) at

pub queue_membership : (c : Chain) (b : Block) (at : ℕ) (k : Text)
    → queue_after_lines c b at (Membership k) ≡ option_map_or (planned_expiry c b at) (last_entered b k) (is_queued c at (Membership k))
queue_membership c b at k =
    leaves (certify_queue c b at (Membership k)) (λ line row. refl) b.certifications _
    ∙ leaves (revoke_queue (Membership k)) (λ line row. refl) b.revoked _
    ∙ entered b.actives _
    ∙ ap (λ is. option_map_or (planned_expiry c b at) (last_of (is_of k) b.actives) is) (entered b.joiners _)
    ∙ entering_twice (planned_expiry c b at) b k _
  where
    entered : (lines : List MemberLine) (is : Bool) → fold (enter_queue c b at (Membership k)) is lines ≡ option_map_or (planned_expiry c b at) (last_of (is_of k) lines) is
    entered lines is = by_last (enter_queue c b at (Membership k)) (is_of k) (λ line _. planned_expiry c b at line) (λ y z row. refl) (λ line row. refl) lines is

pub queue_revocation : (c : Chain) (b : Block) (at : ℕ) (k : Text)
    → queue_after_lines c b at (Revocation k) ≡ cond (has_revoked b k) false (option_map_or (planned_revocation c b at) (last_entered b k) (is_queued c at (Revocation k)))
queue_revocation c b at k =
    leaves (certify_queue c b at (Revocation k)) (λ line row. refl) b.certifications _
    ∙ by_any (revoke_queue (Revocation k)) (λ (line : RevokedLine). same_text k line.key) (λ _. false) (λ row. refl) (λ line row. refl) b.revoked _
    ∙ ap (λ is. cond (has_revoked b k) false is)
    (entered b.actives _
    ∙ ap (λ is. option_map_or (planned_revocation c b at) (last_of (is_of k) b.actives) is) (entered b.joiners _)
    ∙ entering_twice (planned_revocation c b at) b k _)
  where
    entered : (lines : List MemberLine) (is : Bool) → fold (enter_queue c b at (Revocation k)) is lines ≡ option_map_or (planned_revocation c b at) (last_of (is_of k) lines) is
    entered lines is = by_last (enter_queue c b at (Revocation k)) (is_of k) (λ line _. planned_revocation c b at line) (λ y z row. refl) (λ line row. refl) lines is

pub queue_certification : (c : Chain) (b : Block) (at : ℕ) (x y : Text)
    → queue_after_lines c b at (Certification x y) ≡ option_map_or (planned_end c b at) (last_of (of_pair x y) b.certifications) (is_queued c at (Certification x y))
queue_certification c b at x y =
    by_last (certify_queue c b at (Certification x y)) (of_pair x y) (λ line _. planned_end c b at line) (λ y z row. refl) (λ line row. refl) b.certifications _
    ∙ ap (λ is. option_map_or (planned_end c b at) (last_of (of_pair x y) b.certifications) is)
    (leaves (revoke_queue (Certification x y)) (λ line row. refl) b.revoked _
    ∙ leaves (enter_queue c b at (Certification x y)) (λ line row. refl) b.actives _
    ∙ leaves (enter_queue c b at (Certification x y)) (λ line row. refl) b.joiners _)
