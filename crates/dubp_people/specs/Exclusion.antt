-- Whether a key has to be excluded, by the rows of the indexes and by how many live certifications it has received, and what is noted of
-- it. Protocol: tables.
use Rattle.std.specs.Prelude.{ℕ, ◌+◌, Bool, false, ◌&&◌, ◌||◌, Option, nat_le, nat_lt, if◌then◌else◌}
use Rattle.std.specs.Option.{option_map_or}
use Rattle.dubp_params.specs.declared.params.Params.{Params}
use Rattle.dubp_iindex.specs.declared.row.IdentityRow.{IdentityRow}
use Rattle.dubp_mindex.specs.declared.member.MemberRow.{MemberRow}
use Rattle.dubp_atoms.specs.Same.{Text}
use Rattle.dubp_chain.specs.Chains.{Chain}
use Rattle.dubp_chain.specs.Live.{received}
use Rattle.dubp_chain.specs.Tables.{identity_row, membership_row}
use Rattle.dubp_people_apply.specs.OfSteps.{kicked_by}
use Rattle.dubp_registry.specs.OfLeft.{Next}

abbrev pub is_member_row : Option IdentityRow → Bool
is_member_row identity = option_map_or (λ (row : IdentityRow). row.member) identity false

abbrev pub has_lapsed : Params → ℕ → ℕ → MemberRow → Bool
has_lapsed p time count row = row.revoked || (nat_le (row.made + p.ms_validity) time || nat_lt count p.sig_qty)

abbrev pub is_kicked : Params → ℕ → ℕ → Option IdentityRow → Option MemberRow → Bool
is_kicked p time count identity membership = is_member_row identity && option_map_or (has_lapsed p time count) membership false

-- the same by the rows of a chain, at this time
abbrev pub kicked_with : Next → Chain → Text → Bool
kicked_with next c k = kicked_by next.params next.time (received c k) (identity_row c k) (membership_row c k)

-- what is noted of a key behind a line or a record: what is so now, where it may have changed that; else what was noted
abbrev pub noted_anew : {X : Type 0} → Bool → (X → Bool) → Bool → X → Bool
noted_anew now touches was entry = if touches entry then now else was
