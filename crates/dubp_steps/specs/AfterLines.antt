-- What the lines of a block make of the rows and of the queue at a key, section by section. Each change of a line is a function of what
-- stands there and of the line; a section is its fold. The lines cancel what stood in the queue for their key or pair and plan what is
-- to come later than the time of the chain with the block; no row waits for the queue here. Protocol: people, certifications, tables.
use Rattle.std.specs.Prelude.{ℕ, ◌+◌, ◌*◌, Bool, true, false, ◌&&◌, ◌||◌, ◌==◌, List, ◌∷◌, ◌++◌, Option, Some, option_map, unwrap_or, fold, nat_le, nat_lt, if◌then◌else◌}
use Rattle.dubp_atoms.specs.Same.{Text, same_text}
use Rattle.dubp_block.specs.declared.block.Block.{Block}
use Rattle.dubp_block.specs.declared.block.IdentityLine.{IdentityLine}
use Rattle.dubp_block.specs.declared.block.MemberLine.{MemberLine}
use Rattle.dubp_block.specs.declared.block.RevokedLine.{RevokedLine}
use Rattle.dubp_block.specs.declared.block.CertLine.{CertLine}
use Rattle.dubp_chain.specs.Chains.{Chain, params}
use Rattle.dubp_chain.specs.Members.{is_of}
use Rattle.dubp_chain.specs.Heads.{time_of}
use Rattle.dubp_chain.specs.Made.{certification_made}
use Rattle.dubp_validity.specs.Records.{membership_time}
use Rattle.dubp_chain.specs.Tables.{IdentityRow, MembershipRow, CertificationRow, Due, is_queued}
use Rattle.dubp_chain.specs.Tables.Due.{Membership, Revocation, Certification}

-- words

-- the time of the chain with the block, and how long its memberships and certifications last
abbrev pub now_of : Chain → Block → ℕ
now_of c b = time_of (b ∷ c)

abbrev pub lasting : Chain → Block → ℕ
lasting c b = (params (b ∷ c)).ms_validity

abbrev pub cert_lasting : Chain → Block → ℕ
cert_lasting c b = (params (b ∷ c)).sig_validity

-- the lines that make a membership anew
abbrev pub entering_lines : Block → List MemberLine
entering_lines b = b.joiners ++ b.actives

abbrev pub of_pair : Text → Text → CertLine → Bool
of_pair x y line = same_text x line.from && same_text y line.to

-- one of the two ends of a certification
abbrev pub is_end : Text → Text → Text → Bool
is_end from to k = same_text from k || same_text to k

abbrev pub certification_time : Chain → Block → CertLine → ℕ
certification_time c b line = unwrap_or (certification_made c b line) 0

-- identities

abbrev pub created : ℕ → IdentityLine → IdentityRow
created number line = record { uid = line.uid; stamp = line.stamp; sig = line.sig; written = number; is_member = false }

abbrev pub set_member : Bool → IdentityRow → IdentityRow
set_member is row = record row { is_member = is }

abbrev pub create_line : ℕ → Text → Option IdentityRow → IdentityLine → Option IdentityRow
create_line number k row line = if same_text k line.key then Some (created number line) else row

abbrev pub join_line : Text → Option IdentityRow → MemberLine → Option IdentityRow
join_line k row line = if is_of k line then option_map (set_member true) row else row

abbrev pub exclude_line : Text → Option IdentityRow → Text → Option IdentityRow
exclude_line k row key = if same_text k key then option_map (set_member false) row else row

abbrev pub identity_after_lines : Block → Text → Option IdentityRow → Option IdentityRow
identity_after_lines b k row =
    fold (exclude_line k) (fold (join_line k) (fold (create_line b.number k) row b.identities) b.joiners) b.excluded

-- memberships

abbrev pub entered_row : Chain → Block → MemberLine → MembershipRow
entered_row c b line =
    record {
      last_number = line.stamp.number;
      made = membership_time c b line;
      written = b.number;
      is_leaving = false;
      is_revoked = nat_le (membership_time c b line + 2 * lasting c b) (now_of c b);
    }

abbrev pub left_row : Block → MemberLine → MembershipRow → MembershipRow
left_row b line row = record row { last_number = line.stamp.number; written = b.number; is_leaving = true }

abbrev pub set_revoked : MembershipRow → MembershipRow
set_revoked row = record row { is_revoked = true }

abbrev pub enter_line : Chain → Block → Text → Option MembershipRow → MemberLine → Option MembershipRow
enter_line c b k row line = if is_of k line then Some (entered_row c b line) else row

abbrev pub leave_line : Block → Text → Option MembershipRow → MemberLine → Option MembershipRow
leave_line b k row line = if is_of k line then option_map (left_row b line) row else row

abbrev pub revoke_line : Text → Option MembershipRow → RevokedLine → Option MembershipRow
revoke_line k row line = if same_text k line.key then option_map set_revoked row else row

abbrev pub membership_after_lines : Chain → Block → Text → Option MembershipRow → Option MembershipRow
membership_after_lines c b k row =
    fold (revoke_line k) (fold (leave_line b k) (fold (enter_line c b k) (fold (enter_line c b k) row b.joiners) b.actives) b.leavers) b.revoked

-- certifications

abbrev pub certified_row : Chain → Block → CertLine → CertificationRow
certified_row c b line =
    record {
      made = certification_time c b line;
      written = b.number;
      is_live = nat_lt (now_of c b) (certification_time c b line + cert_lasting c b);
    }

abbrev pub certify_line : Chain → Block → Text → Text → Option CertificationRow → CertLine → Option CertificationRow
certify_line c b x y row line = if of_pair x y line then Some (certified_row c b line) else row

abbrev pub certification_after_lines : Chain → Block → Text → Text → Option CertificationRow → Option CertificationRow
certification_after_lines c b x y row = fold (certify_line c b x y) row b.certifications

-- the queue

-- planned for its end, where that is to come
abbrev pub is_planned : ℕ → ℕ → ℕ → Bool
is_planned now end at = nat_lt now end && end == at

-- what is entered anew has both ends of the membership planned anew
abbrev pub enter_entry : ℕ → ℕ → ℕ → Text → ℕ → Due → Bool → Bool
enter_entry now lasting made key at (Membership k) is = if same_text k key then is_planned now (made + lasting) at else is
enter_entry now lasting made key at (Revocation k) is = if same_text k key then is_planned now (made + 2 * lasting) at else is
enter_entry now lasting made key at (Certification x y) is = is

-- who is revoked by a line is not revoked by time
abbrev pub revoke_entry : Text → Due → Bool → Bool
revoke_entry key (Membership k) is = is
revoke_entry key (Revocation k) is = if same_text k key then false else is
revoke_entry key (Certification x y) is = is

abbrev pub certify_entry : ℕ → ℕ → ℕ → Text → Text → ℕ → Due → Bool → Bool
certify_entry now lasting made from to at (Membership k) is = is
certify_entry now lasting made from to at (Revocation k) is = is
certify_entry now lasting made from to at (Certification x y) is = if same_text x from && same_text y to then is_planned now (made + lasting) at else is

-- the lines
abbrev pub enter_queue : Chain → Block → ℕ → Due → Bool → MemberLine → Bool
enter_queue c b at due is line = enter_entry (now_of c b) (lasting c b) (membership_time c b line) line.key at due is

abbrev pub revoke_queue : Due → Bool → RevokedLine → Bool
revoke_queue due is line = revoke_entry line.key due is

abbrev pub certify_queue : Chain → Block → ℕ → Due → Bool → CertLine → Bool
certify_queue c b at due is line = certify_entry (now_of c b) (cert_lasting c b) (certification_time c b line) line.from line.to at due is

abbrev pub queue_after_lines : Chain → Block → ℕ → Due → Bool
queue_after_lines c b at due =
    fold (certify_queue c b at due)
    (fold (revoke_queue due)
    (fold (enter_queue c b at due)
    (fold (enter_queue c b at due) (is_queued c at due) b.joiners)
    b.actives)
    b.revoked)
    b.certifications
