-- What stands at each key of the tables of a chain. Protocol: tables.
use Rattle.std.specs.Prelude.{ℕ, Bool, false, not, ◌&&◌, ◌==◌, [], ◌∷◌, Option, Some, None, option_map, is_some, unwrap_or, find, length}
use Rattle.std.specs.Option.{option_map_or}
use Rattle.std.specs.List.{enumerate_from}
use Rattle.dubp_time.specs.OfAtoms.{Text}
use Rattle.dubp_time.specs.OfAtoms.{Stamp}
use Rattle.dubp_block.specs.OfCond.{cond_text}
use Rattle.dubp_block.specs.OfCond.{SourceId}
use Rattle.dubp_block.specs.OfParams.{Params}
use Rattle.dubp_chain.specs.Words.{names}
use Rattle.dubp_chain.specs.Chains.{Chain, params, currency}
use Rattle.dubp_chain.specs.Members.{member}
use Rattle.dubp_chain.specs.Heads.{issued}
use Rattle.dubp_chain.specs.Made.{head_stamped}
use Rattle.dubp_chain.specs.People.{identity, membership, membership_made, leaving, revoked, expired, expiry, revocation}
use Rattle.dubp_chain.specs.Live.{certification, made_of, end_of, live, kick}
use Rattle.dubp_chain.specs.Money.{Source, same_source, made_sources, cleared, is_left, unspent_units, cleared_units, hashes_of}

-- identities: each key with a line of Identities
pub record IdentityRow : Type 0 where
  pub uid : Text
  pub stamp : Stamp
  pub sig : Text
  pub written : ℕ
  pub is_member : Bool

abbrev pub identity_row : Chain → Text → Option IdentityRow
identity_row c k =
    option_map (λ w. record { uid = w.line.uid; stamp = w.line.stamp; sig = w.line.sig; written = w.block.number; is_member = member c k }) (identity c k)

-- memberships: each key with a line of Joiners, Actives or Leavers
pub record MembershipRow : Type 0 where
  pub last_number : ℕ
  pub made : ℕ
  pub written : ℕ
  pub is_leaving : Bool
  pub is_revoked : Bool

abbrev pub membership_row : Chain → Text → Option MembershipRow
membership_row c k =
    option_map (λ w. record { last_number = w.line.stamp.number; made = unwrap_or (membership_made c k) 0; written = w.block.number; is_leaving = leaving c k; is_revoked = revoked c k }) (membership c k)

-- certifications: each pair with a line of Certifications
pub record CertificationRow : Type 0 where
  pub made : ℕ
  pub written : ℕ
  pub is_live : Bool

abbrev pub certification_row : Chain → Text → Text → Option CertificationRow
certification_row c a b =
    option_map (λ w. record { made = made_of w; written = w.block.number; is_live = live c a b }) (certification c a b)

-- sources: each that is unspent, with its place in the order of making
pub record SourceRow : Type 0 where
  pub amount : ℕ
  pub base : ℕ
  pub cond : Text
  pub made_at : ℕ
  pub order : ℕ

abbrev pub row_of_source : ℕ × Source → SourceRow
row_of_source (order, s) = record { amount = s.amount; base = s.base; cond = cond_text s.cond; made_at = s.time; order = order }

abbrev pub source_row : Chain → SourceId → Option SourceRow
source_row c id =
    option_map row_of_source (find (λ p. same_source id p.1.id && is_left c (cleared c) p.1) (enumerate_from 0 (made_sources c)))

-- queue: what comes to its end at a time by itself, a membership, a revocation or a certification
pub data Due : Type 0 where
  Membership : Text → Due
  Revocation : Text → Due
  Certification : Text → Text → Due

abbrev pub falls_at : Option ℕ → ℕ → Bool
falls_at due at = option_map_or (λ time. time == at) due false

abbrev pub is_queued : Chain → ℕ → Due → Bool
is_queued c at (Membership k) = is_some (identity c k) && (not (expired c k) && falls_at (expiry c k) at)
is_queued c at (Revocation k) = is_some (identity c k) && (not (revoked c k) && falls_at (revocation c k) at)
is_queued c at (Certification a b) = live c a b && falls_at (option_map (end_of c) (certification c a b)) at

-- kicked: the keys that have to be excluded
abbrev pub is_to_be_excluded : Chain → Text → Bool
is_to_be_excluded c k = names (kick c) k

-- transactions: the hashes of those of the chain
abbrev pub has_transaction : Chain → Text → Bool
has_transaction c hash = names (hashes_of c) hash

-- totals: the units issued, unspent and cleared, and how many sources were made; of the empty chain there are none, and each of
-- them reads as 0
pub record Totals : Type 0 where
  pub issued : ℕ
  pub unspent : ℕ
  pub cleared : ℕ
  pub made : ℕ

abbrev pub totals : Chain → Option Totals
totals [] = None
totals (b ∷ c) =
    let all = b ∷ c in
    Some (record { issued = issued all; unspent = unspent_units all; cleared = cleared_units all; made = length (made_sources all) })

-- facts: the parameters and the currency, and for each stamp of the chain the median time there; of the empty chain there are none
abbrev pub fact_params : Chain → Option Params
fact_params [] = None
fact_params (b ∷ c) = Some (params (b ∷ c))

abbrev pub fact_currency : Chain → Option Text
fact_currency [] = None
fact_currency (b ∷ c) = Some (currency (b ∷ c))

abbrev pub fact_time : Chain → Stamp → Option ℕ
fact_time c s = option_map (λ h. h.median_time) (head_stamped c s)
