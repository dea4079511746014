-- The tables that the records of all blocks leave, each changed by every record in turn. Protocol: records.
use Rattle.std.specs.Prelude.{◌≡◌, ℕ, ◌+◌, Bool, true, false, ◌&&◌, [], ◌∷◌, Option, Some, None, option_map, fold, nat_lt, if◌then◌else◌}
use Rattle.std.specs.Option.{option_map_or}
use Rattle.dubp_verdict.specs.OfAtoms.{Text, same_text}
use Rattle.dubp_verdict.specs.OfAtoms.{Stamp}
use Rattle.dubp_chain.specs.OfCond.{SourceId}
use Rattle.dubp_chain.specs.OfCond.{D, T}
use Rattle.dubp_chain.specs.OfCond.{Input}
use Rattle.dubp_validity.specs.declared.record.Record.{Record}
use Rattle.dubp_validity.specs.declared.record.Record.TheVariants.{Create, Enter, Exit, Join, Active, Leave, Revoke, ExpireRev, Cert, CertExpire, Spend, Make, Dividend, Clear}
use Rattle.dubp_chain.specs.Chains.{Chain, params}
use Rattle.dubp_chain.specs.Heads.{time_of}
use Rattle.dubp_chain.specs.Money.{same_source, signed_by}
use Rattle.dubp_chain.specs.OfCond.{cond_text}
use Rattle.dubp_validity.specs.Records.{records}
use Rattle.dubp_chain.specs.Tables.{IdentityRow, identity_row, MembershipRow, membership_row, CertificationRow, certification_row, SourceRow, source_row}
use Rattle.dubp_verdict.specs.Verdicts.{Verdicts}
use Rattle.dubp_validity.specs.Rules.{IsValid}

-- Records carry no signature of an identity and no number of a membership's stamp, so the rows that they leave have none.
pub record ReducedIdentity : Type 0 where
  pub uid : Text
  pub stamp : Stamp
  pub written : ℕ
  pub is_member : Bool

pub record ReducedMembership : Type 0 where
  pub made : ℕ
  pub written : ℕ
  pub is_leaving : Bool
  pub is_revoked : Bool

-- what a record in the block of this number makes of the identity of k
abbrev pub set_member : Bool → ReducedIdentity → ReducedIdentity
set_member is row = record row { is_member = is }

abbrev pub identity_change : ℕ → Text → Option ReducedIdentity → Record → Option ReducedIdentity
identity_change number k row (Create key uid stamp) =
    if same_text k key then Some (record { uid = uid; stamp = stamp; written = number; is_member = false }) else row
identity_change number k row (Enter key) = if same_text k key then option_map (set_member true) row else row
identity_change number k row (Exit key) = if same_text k key then option_map (set_member false) row else row
identity_change number k row other = row

abbrev pub reduced_identity : Chain → Text → Option ReducedIdentity
reduced_identity [] k = None
reduced_identity (b ∷ c) k = fold (identity_change b.number k) (reduced_identity c k) (records c b)

-- what it makes of the membership of k
abbrev pub is_revoked_row : Option ReducedMembership → Bool
is_revoked_row row = option_map_or (λ (r : ReducedMembership). r.is_revoked) row false

abbrev pub entered : ℕ → ℕ → Option ReducedMembership → Option ReducedMembership
entered number made row = Some (record { made = made; written = number; is_leaving = false; is_revoked = is_revoked_row row })

abbrev pub left : ℕ → Option ReducedMembership → Option ReducedMembership
left number row =
    Some (record { made = option_map_or (λ (r : ReducedMembership). r.made) row 0; written = number; is_leaving = true; is_revoked = is_revoked_row row })

abbrev pub set_revoked : ReducedMembership → ReducedMembership
set_revoked row = record row { is_revoked = true }

abbrev pub membership_change : ℕ → Text → Option ReducedMembership → Record → Option ReducedMembership
membership_change number k row (Join key made) = if same_text k key then entered number made row else row
membership_change number k row (Active key made) = if same_text k key then entered number made row else row
membership_change number k row (Leave key made) = if same_text k key then left number row else row
membership_change number k row (Revoke key) = if same_text k key then option_map set_revoked row else row
membership_change number k row (ExpireRev key) = if same_text k key then option_map set_revoked row else row
membership_change number k row other = row

abbrev pub reduced_membership : Chain → Text → Option ReducedMembership
reduced_membership [] k = None
reduced_membership (b ∷ c) k = fold (membership_change b.number k) (reduced_membership c k) (records c b)

-- what it makes of the certification from a to b: live where it ends behind the time of the block
abbrev pub certified : ℕ → ℕ → ℕ → ℕ → CertificationRow
certified number time validity made = record { made = made; written = number; is_live = nat_lt time (made + validity) }

abbrev pub set_ended : CertificationRow → CertificationRow
set_ended row = record row { is_live = false }

abbrev pub certification_change : ℕ → ℕ → ℕ → Text → Text → Option CertificationRow → Record → Option CertificationRow
certification_change number time validity a b row (Cert from to made) =
    if same_text a from && same_text b to then Some (certified number time validity made) else row
certification_change number time validity a b row (CertExpire from to) =
    if same_text a from && same_text b to then option_map set_ended row else row
certification_change number time validity a b row other = row

abbrev pub reduced_certification : Chain → Text → Text → Option CertificationRow
reduced_certification [] a b = None
reduced_certification (x ∷ c) a b =
    fold (certification_change x.number (time_of (x ∷ c)) (params (x ∷ c)).sig_validity a b) (reduced_certification c a b) (records c x)

-- what it makes of the source of this name, beside how many sources were made so far
abbrev pub made_row : ℕ → ℕ → Input → Text → SourceRow
made_row time order input cond = record { amount = input.amount; base = input.base; cond = cond; made_at = time; order = order }

abbrev pub dividend_cond : SourceId → Text
dividend_cond (D key block) = cond_text (signed_by key)
dividend_cond (T tx index) = []

abbrev pub source_made : ℕ → SourceId → ℕ × Option SourceRow → Input → Text → ℕ × Option SourceRow
source_made time id (count, row) input cond = (count + 1, if same_source id input.source then Some (made_row time count input cond) else row)

abbrev pub source_gone : SourceId → ℕ × Option SourceRow → Input → ℕ × Option SourceRow
source_gone id (count, row) input = (count, if same_source id input.source then None else row)

abbrev pub source_change : ℕ → SourceId → ℕ × Option SourceRow → Record → ℕ × Option SourceRow
source_change time id state (Make input cond) = source_made time id state input cond
source_change time id state (Dividend input) = source_made time id state input (dividend_cond input.source)
source_change time id state (Spend input) = source_gone id state input
source_change time id state (Clear input) = source_gone id state input
source_change time id state other = state

abbrev pub reduced_sources : Chain → SourceId → ℕ × Option SourceRow
reduced_sources [] id = (0, None)
reduced_sources (b ∷ c) id = fold (source_change (time_of (b ∷ c)) id) (reduced_sources c id) (records c b)

-- ---- the law

abbrev pub without_signature : IdentityRow → ReducedIdentity
without_signature row = record { uid = row.uid; stamp = row.stamp; written = row.written; is_member = row.is_member }

abbrev pub without_number : MembershipRow → ReducedMembership
without_number row = record { made = row.made; written = row.written; is_leaving = row.is_leaving; is_revoked = row.is_revoked }

-- the records of all blocks leave the tables of the chain
pub record IsReduced (c : Chain) : Type 0 where
  pub identities : (k : Text) → reduced_identity c k ≡ option_map without_signature (identity_row c k)
  pub memberships : (k : Text) → reduced_membership c k ≡ option_map without_number (membership_row c k)
  pub certifications : (a b : Text) → reduced_certification c a b ≡ certification_row c a b
  pub sources : (id : SourceId) → (reduced_sources c id).1 ≡ source_row c id

abbrev pub Reduces : Type 0
Reduces = (v : Verdicts) (c : Chain) → IsValid v c → IsReduced c
