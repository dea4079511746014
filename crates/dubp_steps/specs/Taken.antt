-- What is taken from the queue once the lines of a block have changed it: the entries whose time has come. What it changes, and who is to
-- be excluded after it. Protocol: tables, records.
use Rattle.std.specs.Prelude.{◌≡◌, ℕ, ◌+◌, ◌*◌, Bool, true, false, not, ◌&&◌, ◌||◌, ◌⊎◌, Option, nat_le, nat_lt}
use Rattle.std.specs.Option.{option_map_or}
use Rattle.dubp_atoms.specs.Same.{Text}
use Rattle.dubp_block.specs.declared.block.Block.{Block}
use Rattle.dubp_block.specs.OfParams.{Params}
use Rattle.dubp_chain.specs.Words.{last_of}
use Rattle.dubp_chain.specs.Chains.{Chain}
use Rattle.dubp_chain.specs.Members.{is_of}
use Rattle.dubp_chain.specs.People.{expired}
use Rattle.dubp_chain.specs.Live.{live}
use Rattle.dubp_validity.specs.Records.{membership_time}
use Rattle.dubp_chain.specs.Tables.{IdentityRow, MembershipRow, CertificationRow, Due}
use Rattle.dubp_chain.specs.Tables.Due.{Membership, Revocation, Certification}
use Rattle.dubp_steps.specs.AfterLines.{now_of, lasting, cert_lasting, entering_lines, of_pair, certification_time, queue_after_lines}

-- the entry is taken
abbrev pub is_taken : Chain → Block → ℕ → Due → Bool
is_taken c b at due = queue_after_lines c b at due && nat_le at (now_of c b)

-- a membership is revoked where its entry is taken
abbrev pub revoke_where : Bool → MembershipRow → MembershipRow
revoke_where is row = record row { is_revoked = row.is_revoked || is }

abbrev pub revoked_by_time : Chain → Block → Text → MembershipRow → MembershipRow
revoked_by_time c b k row = revoke_where (is_taken c b (row.made + 2 * lasting c b) (Revocation k)) row

-- a certification ends where its entry is taken
abbrev pub end_where : Bool → CertificationRow → CertificationRow
end_where is row = record row { is_live = row.is_live && not is }

abbrev pub ended_by_time : Chain → Block → Text → Text → CertificationRow → CertificationRow
ended_by_time c b x y row = end_where (is_taken c b (row.made + cert_lasting c b) (Certification x y)) row

-- who has a record of an end: whose entry is taken, and who is at an end with the very line that begins it anew

abbrev pub is_over_at_once : Chain → Block → Text → Bool
is_over_at_once c b k =
    option_map_or (λ line. nat_le (membership_time c b line + lasting c b) (now_of c b) && not (expired c k)) (last_of (is_of k) (entering_lines b)) false

abbrev pub is_revoked_at_once : Chain → Block → Text → Bool
is_revoked_at_once c b k =
    option_map_or (λ line. nat_le (membership_time c b line + 2 * lasting c b) (now_of c b)) (last_of (is_of k) (entering_lines b)) false

abbrev pub is_ended_at_once : Chain → Block → Text → Text → Bool
is_ended_at_once c b x y =
    option_map_or (λ line. nat_le (certification_time c b line + cert_lasting c b) (now_of c b) && live c x y) (last_of (of_pair x y) b.certifications) false

-- an entry of it is taken
abbrev pub IsTaken : Chain → Block → Due → Type 0
IsTaken c b due = (at : ℕ) × (is_taken c b at due ≡ true)

abbrev pub Expires : Chain → Block → Text → Type 0
Expires c b k = (is_over_at_once c b k ≡ true) ⊎ IsTaken c b (Membership k)

abbrev pub RevokedInTime : Chain → Block → Text → Type 0
RevokedInTime c b k = (is_revoked_at_once c b k ≡ true) ⊎ IsTaken c b (Revocation k)

abbrev pub Ends : Chain → Block → Text → Text → Type 0
Ends c b x y = (is_ended_at_once c b x y ≡ true) ⊎ IsTaken c b (Certification x y)

-- who is to be excluded, by the rows of the key and by how many live certifications it has received

abbrev pub is_kicked_by : Params → ℕ → ℕ → MembershipRow → Bool
is_kicked_by p time count row = row.is_revoked || (nat_le (row.made + p.ms_validity) time || nat_lt count p.sig_qty)

abbrev pub kicked_by : Params → ℕ → ℕ → Option IdentityRow → Option MembershipRow → Bool
kicked_by p time count identity membership =
    option_map_or (λ (row : IdentityRow). row.is_member) identity false && option_map_or (is_kicked_by p time count) membership false
