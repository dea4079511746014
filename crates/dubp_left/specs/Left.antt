-- The rows that a chain leaves in each index of people, and what its other tables have. Protocol: tables.
use Rattle.std.specs.Prelude.{ℕ, List, [], ◌∷◌, ◌++◌, Option, Some, None, map, option_map, if◌then◌else◌}
use Rattle.std.specs.List.{flat_map}
use Rattle.dubp_atoms.specs.Same.{Text}
use Rattle.dubp_chain.specs.Chains.{Chain}
use Rattle.dubp_chain.specs.People.{identity_lines, membership_lines, expiry, revocation}
use Rattle.dubp_chain.specs.Live.{certified_pairs, certification, end_of}
use Rattle.dubp_chain.specs.Tables as chain
use Rattle.dubp_chain.specs.Tables.{identity_row, membership_row, certification_row, is_queued, is_to_be_excluded}
use Rattle.dubp_iindex.specs.Rows.{texts, Rows as Identities}
use Rattle.dubp_iindex.specs.declared.row.IdentityRow.{IdentityRow}
use Rattle.dubp_mindex.specs.Members.{Members as Memberships}
use Rattle.dubp_mindex.specs.declared.member.MemberRow.{MemberRow}
use Rattle.dubp_cindex.specs.Orders.{pair_cmp}
use Rattle.dubp_cindex.specs.Rows.{Rows as Certifications}
use Rattle.dubp_cindex.specs.declared.row.CertRow.{CertRow}
use Rattle.dubp_expiry.specs.DueOrder.{entry_cmp}
use Rattle.dubp_expiry.specs.Entries.{Queued}
use Rattle.dubp_expiry.specs.declared.due.Due.{Due}
use Rattle.dubp_expiry.specs.declared.due.Due.TheVariants.{Membership, Revocation, Certification}
use Rattle.dubp_left.specs.Gathered.{table_of}

-- ---- identities: at each key with a line of Identities

abbrev pub identity_entry : chain.IdentityRow → IdentityRow
identity_entry row = record { uid = row.uid; stamp = row.stamp; sig = row.sig; written = row.written; member = row.is_member }

abbrev pub identity_left : Chain → Text → Option IdentityRow
identity_left c k = option_map identity_entry (identity_row c k)

abbrev pub identities_left : Chain → Identities
identities_left c = table_of texts (identity_left c) (map (λ line. line.key) (identity_lines c))

-- ---- memberships: at each key with a line of Joiners, Actives or Leavers

abbrev pub member_entry : chain.MembershipRow → MemberRow
member_entry row = record { last_number = row.last_number; made = row.made; written = row.written; leaving = row.is_leaving; revoked = row.is_revoked }

abbrev pub membership_left : Chain → Text → Option MemberRow
membership_left c k = option_map member_entry (membership_row c k)

abbrev pub membership_keys : Chain → List Text
membership_keys c = map (λ line. line.key) (flat_map membership_lines c)

abbrev pub memberships_left : Chain → Memberships
memberships_left c = table_of texts (membership_left c) (membership_keys c)

-- ---- certifications: at each pair with a line of Certifications

abbrev pub cert_entry : chain.CertificationRow → CertRow
cert_entry row = record { made = row.made; written = row.written; live = row.is_live }

abbrev pub certification_left : Chain → Text × Text → Option CertRow
certification_left c p = option_map cert_entry (certification_row c p.0 p.1)

abbrev pub certifications_left : Chain → Certifications
certifications_left c = table_of pair_cmp (certification_left c) (certified_pairs c)

-- ---- the queue: whatever has an end to come

abbrev pub due_of : Due → chain.Due
due_of (Membership k) = chain.Due.Membership k
due_of (Revocation k) = chain.Due.Revocation k
due_of (Certification a b) = chain.Due.Certification a b

abbrev pub queued_left : Chain → ℕ × Due → Option (Unit {0})
queued_left c e = if is_queued c e.0 (due_of e.1) then Some tt else None

-- the ends that there are, whether they are to come or have come
abbrev pub due_at : Due → Option ℕ → List (ℕ × Due) → List (ℕ × Due)
due_at due None rest = rest
due_at due (Some time) rest = (time, due) ∷ rest

abbrev pub ends_of_member : Chain → Text → List (ℕ × Due)
ends_of_member c k = due_at (Membership k) (expiry c k) (due_at (Revocation k) (revocation c k) [])

abbrev pub ends_of_pair : Chain → Text × Text → List (ℕ × Due)
ends_of_pair c p = due_at (Certification p.0 p.1) (option_map (end_of c) (certification c p.0 p.1)) []

abbrev pub ends : Chain → List (ℕ × Due)
ends c = flat_map (ends_of_member c) (membership_keys c) ++ flat_map (ends_of_pair c) (certified_pairs c)

abbrev pub queue_left : Chain → Queued
queue_left c = table_of entry_cmp (queued_left c) (ends c)

-- ---- the keys that have to be excluded

abbrev pub kicked_at : Chain → Text → Option (Unit {0})
kicked_at c k = if is_to_be_excluded c k then Some tt else None
