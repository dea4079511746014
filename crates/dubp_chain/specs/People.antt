-- Identities and memberships, each by the last line of the chain that names a key. Protocol: people.
use Rattle.std.specs.Prelude.{ℕ, ◌+◌, ◌*◌, Bool, true, false, ◌||◌, List, [], ◌∷◌, ◌++◌, Option, None, option_map, unwrap_or, nat_le, if◌then◌else◌}
use Rattle.std.specs.Option.{option_or, option_map_or}
use Rattle.std.specs.List.{list_any, flat_map}
use Rattle.dubp_time.specs.OfAtoms.{Text, same_text}
use Rattle.dubp_block.specs.declared.block.Block.{Block}
use Rattle.dubp_block.specs.declared.block.IdentityLine.{IdentityLine}
use Rattle.dubp_block.specs.declared.block.MemberLine.{MemberLine}
use Rattle.dubp_chain.specs.Words.{last_of}
use Rattle.dubp_chain.specs.Chains.{Chain, params}
use Rattle.dubp_chain.specs.Members.{is_of}
use Rattle.dubp_chain.specs.Heads.{time_of}
use Rattle.dubp_chain.specs.Made.{made}

-- a line, with the block that it stands in and the chain before that block
pub record Written (Line : Type 0) : Type 0 where
  pub line : Line
  pub block : Block
  pub before : Chain

abbrev pub written_in : {Line : Type 0} → Block → Chain → Line → Written Line
written_in b c line = record { line = line; block = b; before = c }

-- the last line that passes, of what each block has
abbrev pub last_line : {Line : Type 0} → (Block → List Line) → (Line → Bool) → Chain → Option (Written Line)
last_line lines test [] = None
last_line lines test (b ∷ c) = option_or (option_map (written_in b c) (last_of test (lines b))) (last_line lines test c)

-- the median time of the block that the line stands in
abbrev pub written_time : {Line : Type 0} → Written Line → ℕ
written_time w = time_of (w.block ∷ w.before)

-- the identity of k
abbrev pub identity : Chain → Text → Option (Written IdentityLine)
identity c k = last_line (λ b. b.identities) (λ line. same_text k line.key) c

-- all lines of Identities
abbrev pub identity_lines : Chain → List IdentityLine
identity_lines c = flat_map (λ b. b.identities) c

-- the lines of Joiners, Actives and Leavers
abbrev pub membership_lines : Block → List MemberLine
membership_lines b = b.joiners ++ (b.actives ++ b.leavers)

-- the last membership of k
abbrev pub membership : Chain → Text → Option (Written MemberLine)
membership c k = last_line membership_lines (is_of k) c

-- the last line of k in Joiners, Actives and Leavers is in Leavers
abbrev pub leaving : Chain → Text → Bool
leaving [] k = false
leaving (b ∷ c) k =
    if list_any (is_of k) b.leavers then true
    else if list_any (is_of k) (b.joiners ++ b.actives) then false
    else leaving c k

-- when its last line of Joiners or Actives was made; a line without a time counts as made at 0, and no answer depends on it
abbrev pub membership_made : Chain → Text → Option ℕ
membership_made c k =
    option_map (λ w. unwrap_or (made w.before w.block w.line.stamp) 0) (last_line (λ b. b.joiners ++ b.actives) (is_of k) c)

-- a membership lasts msValidity seconds
abbrev pub expiry : Chain → Text → Option ℕ
expiry c k = option_map (λ at. at + (params c).ms_validity) (membership_made c k)

-- so long after it was made an expired membership is revoked by time alone
abbrev pub revocation : Chain → Text → Option ℕ
revocation c k = option_map (λ at. at + 2 * (params c).ms_validity) (membership_made c k)

-- the time of the chain has reached this one
abbrev pub is_reached : Chain → Option ℕ → Bool
is_reached c due = option_map_or (λ at. nat_le at (time_of c)) due false

abbrev pub expired : Chain → Text → Bool
expired c k = is_reached c (expiry c k)

-- a line of Revoked names k
abbrev pub revoked_by_line : Chain → Text → Bool
revoked_by_line c k = list_any (λ b. list_any (λ line. same_text k line.key) b.revoked) c

abbrev pub revoked : Chain → Text → Bool
revoked c k = revoked_by_line c k || is_reached c (revocation c k)
