-- What is told of an identity, in the texts of the answer to IDENTITY. Protocol: commands and answers.
use Rattle.std.specs.Prelude.{ℕ, ◌+◌, ◌-◌, ◌^◌, Bool, false, ◌&&◌, if◌then◌else◌, List, [], ◌∷◌, codes, Option, Some, None, min}
use Rattle.std.specs.Option.{option_map_or}
use Rattle.std.specs.Fmt.{decimal}
use Rattle.dubp_atoms.specs.Same.{Text}
use Rattle.dubp_people_views.specs.OfFacts.{First}
use Rattle.dubp_mindex.specs.declared.member.MemberRow.{MemberRow}
use Rattle.dubp_people_views.specs.declared.identities.IdentityView.{IdentityView}
use Rattle.dubp_people_views.specs.declared.identities.IdentityState.{IdentityState}
use Rattle.dubp_people_views.specs.declared.identities.IdentityState.TheVariants.{Revoked, Leaving, Member, Out}

abbrev pub state_text : IdentityState → List ℕ
state_text Revoked = codes "REVOKED"
state_text Leaving = codes "LEAVING"
state_text Member = codes "MEMBER"
state_text Out = codes "OUT"

abbrev pub identity_texts : IdentityView → List Text
identity_texts v = v.key ∷ v.uid ∷ decimal v.written ∷ state_text v.state ∷ decimal v.expires ∷ decimal v.received ∷ decimal v.issued ∷ []

-- ---- in the words of the rows, for the functions that serve them

-- when the membership of the row ends, by the parameters
abbrev pub expiry_of : Option MemberRow → Option First → ℕ
expiry_of None first = 0
expiry_of (Some row) None = 0
expiry_of (Some row) (Some first) = min (row.made + first.params.ms_validity) (2 ^ 64 - 1)

abbrev pub is_revoked : Option MemberRow → Bool
is_revoked o = option_map_or (λ (row : MemberRow). row.revoked) o false

abbrev pub is_leaving : Option MemberRow → Bool
is_leaving o = option_map_or (λ (row : MemberRow). row.leaving) o false

-- how a key stands, by whether it is revoked, a member and leaving
abbrev pub state_of : Bool → Bool → Bool → List ℕ
state_of r m l = if r then codes "REVOKED" else if m && l then codes "LEAVING" else if m then codes "MEMBER" else codes "OUT"
