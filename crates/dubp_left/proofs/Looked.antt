-- What a look at the tables of a chain finds is what the chain says.
use Rattle.std.proofs.Common.{◌≡◌, ℕ, Bool, true, false, List, [], ◌∷◌, length, Option, None, Some, refl, sym, ap, ◌∙◌}
use Rattle.std.specs.Prelude.{map, option_map, is_some, if◌then◌else◌}
use Rattle.std.specs.Option.{option_map_or}
use Rattle.std.specs.FinMap.{get, len, empty}
use Rattle.dubp_atoms.specs.Same.{Text}
use Rattle.dubp_moving.specs.States.{newest, states}
use Rattle.dubp_chain.specs.Words.{names}
use Rattle.dubp_chain.specs.Chains.{Chain}
use Rattle.dubp_chain.specs.Members.{member}
use Rattle.dubp_chain.specs.People.{identity_lines, leaving, revoked}
use Rattle.dubp_chain.specs.Tables as chain
use Rattle.dubp_chain.specs.Tables.{identity_row, membership_row}
use Rattle.dubp_facts.specs.OfValidity.{IsSound}
use Rattle.dubp_steps.proofs.Counts.{member_is_of_row, revoked_is_of_row, leaving_is_of_row}
use Rattle.dubp_iindex.specs.Rows.{key_with}
use Rattle.dubp_iindex.specs.declared.row.IdentityRow.{IdentityRow}
use Rattle.dubp_mindex.specs.declared.member.MemberRow.{MemberRow}
use Rattle.dubp_left.specs.Left.{identity_entry, identity_left, identities_left, member_entry, membership_left, memberships_left}
use Rattle.dubp_left.proofs.Left.{identities-at, memberships-at}
use Rattle.dubp_left.proofs.Lines.{uid-there, identities-counted}

-- the newest of the states that a chain leaves is the state that the chain leaves
pub newest-left : {S : Type 0} (nothing : S) (after : Chain → S) → after [] ≡ nothing → (c : Chain) → newest nothing (states after c) ≡ after c
newest-left nothing after e [] = sym e
newest-left nothing after e (b ∷ c) = refl

pub identity-look : (c : Chain) (k : Text) → get (newest empty (states identities_left c)) k ≡ identity_left c k
identity-look c k = ap (λ m. get m k) (newest-left empty identities_left refl c) ∙ identities-at c k

pub membership-look : (c : Chain) (k : Text) → get (newest empty (states memberships_left c)) k ≡ membership_left c k
membership-look c k = ap (λ m. get m k) (newest-left empty memberships_left refl c) ∙ memberships-at c k

pub uid-look : (c : Chain) → IsSound c → (uid : Text) → is_some (key_with uid (newest empty (states identities_left c))) ≡ names (map (λ line. line.uid) (identity_lines c)) uid
uid-look c sound uid = ap (λ m. is_some (key_with uid m)) (newest-left empty identities_left refl c) ∙ uid-there c sound uid

pub count-look : (c : Chain) → IsSound c → len (newest empty (states identities_left c)) ≡ length (identity_lines c)
count-look c sound = ap len (newest-left empty identities_left refl c) ∙ identities-counted c sound

-- ---- what a row tells

member_told : (o : Option chain.IdentityRow) → option_map_or (λ (row : chain.IdentityRow). row.is_member) o false ≡ option_map_or (λ (row : IdentityRow). row.member) (option_map identity_entry o) false
member_told None = refl
member_told (Some row) = refl

pub member-look : (c : Chain) → IsSound c → (k : Text) (o : Option IdentityRow) → o ≡ identity_left c k → option_map_or (λ (row : IdentityRow). row.member) o false ≡ member c k
member-look c sound k o e = rw e (sym (member_is_of_row c sound k ∙ member_told (identity_row c k)))

leaving_told : (o : Option chain.MembershipRow) → option_map_or (λ (row : chain.MembershipRow). row.is_leaving) o false ≡ option_map_or (λ (row : MemberRow). row.leaving) (option_map member_entry o) false
leaving_told None = refl
leaving_told (Some row) = refl

pub leaving-look : (c : Chain) (k : Text) (o : Option MemberRow) → o ≡ membership_left c k → option_map_or (λ (row : MemberRow). row.leaving) o false ≡ leaving c k
leaving-look c k o e = rw e (sym (leaving_is_of_row c k ∙ leaving_told (membership_row c k)))

revoked_told : (o : Option chain.MembershipRow) → option_map_or (λ (row : chain.MembershipRow). row.is_revoked) o false ≡ option_map_or (λ (row : MemberRow). row.revoked) (option_map member_entry o) false
revoked_told None = refl
revoked_told (Some row) = refl

pub revoked-look : (c : Chain) → IsSound c → (k : Text) (o : Option MemberRow) → o ≡ membership_left c k → option_map_or (λ (row : MemberRow). row.revoked) o false ≡ revoked c k
revoked-look c sound k o e = rw e (sym (revoked_is_of_row c sound k ∙ revoked_told (membership_row c k)))

pub some-shown : (b : Bool) → is_some (if b then Some (tt {0}) else None) ≡ b
some-shown true = refl
some-shown false = refl
