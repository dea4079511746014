-- The rows of the index of identities after a block, and its four tables along a chain of these, newest first. Protocol: people, tables.
use Rattle.std.specs.Prelude.{◌≡◌, ◌==◌, Bool, false, List, length, map, filter, find, Option, None, Some, option_map, if◌then◌else◌}
use Rattle.std.specs.Option.{option_map_or, IfSome}
use Rattle.std.specs.Ordering.{nat_cmp}
use Rattle.std.specs.declared.cmp.Ordering.{Ordering}
use Rattle.std.specs.declared.cmp.Ordering.TheVariants.{Equal}
use Rattle.std.specs.Cmp.Lexicographic.{slice_cmp}
use Rattle.std.specs.FinMap.{FinMap, empty, get, entries, len}
use Rattle.dubp_atoms.specs.Same.{Text, same_text}
use Rattle.dubp_undo.specs.States.{newest}
use Rattle.dubp_iindex.specs.declared.row.IdentityRow.{IdentityRow}
use Rattle.dubp_iindex.specs.declared.row.Counts.{Counts}

-- keys and uids in the order of the bytes of their texts
abbrev pub texts : Text → Text → Ordering
texts = slice_cmp nat_cmp

-- the order of the one key that the numbers stand under
abbrev pub one : Unit {0} → Unit {0} → Ordering
one _ _ = Equal

-- the row of each key that has an identity, by key
abbrev pub Rows : Type 0
Rows = FinMap texts IdentityRow

-- whether a row is of this uid
abbrev pub has_uid : Text → Text × IdentityRow → Bool
has_uid uid entry = same_text uid entry.1.uid

-- the first key whose row has the uid
abbrev pub key_with : Text → Rows → Option Text
key_with uid rows = option_map (λ e. e.0) (find (has_uid uid) (entries rows))

-- whether the key has an identity that is a member
abbrev pub is_member_at : Rows → Text → Bool
is_member_at rows key = option_map_or (λ (row : IdentityRow). row.member) (get rows key) false

-- the keys of the members, in order
abbrev pub members : Rows → List Text
members rows = map (λ e. e.0) (filter (λ e. e.1.member) (entries rows))

-- how many identities and members there are; without an identity nothing is counted
abbrev pub counts_of : Rows → Option Counts
counts_of rows = if len rows == 0 then None else Some (record { identities = len rows; members = length (members rows) })

-- no other key has the row's uid, and the key keeps the uid that it has
pub record FitsRows (rows : Rows) (key : Text) (row : IdentityRow) : Type 0 where
  pub others : (k : Text) (other : IdentityRow) → get rows k ≡ Some other → other.uid ≡ row.uid → k ≡ key
  pub own : IfSome (get rows key) (λ old. old.uid ≡ row.uid)

-- ---- along a chain of rows, one after each block

-- the rows after the last block; before the first there are none
abbrev pub newest_rows : List Rows → Rows
newest_rows states = newest empty states

-- the four tables: the row of each key
abbrev pub row_at : List Rows → Text → Option IdentityRow
row_at states key = get (newest_rows states) key

-- the key of each uid
abbrev pub key_at : List Rows → Text → Option Text
key_at states uid = key_with uid (newest_rows states)

-- each member stands under its key
abbrev pub member_at : List Rows → Text → Option (Unit {0})
member_at states key = if is_member_at (newest_rows states) key then Some tt else None

-- the numbers stand under the one key
abbrev pub counts_at : List Rows → Unit {0} → Option Counts
counts_at states _ = counts_of (newest_rows states)
