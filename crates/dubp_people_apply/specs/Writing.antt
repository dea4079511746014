-- What a block makes of the rows of identities: each line of Identities puts a row, Joiners make members, and Excluded end that.
-- Protocol: people, tables.
use Rattle.std.specs.Prelude.{◌≡◌, ℕ, Bool, true, false, ◌+◌, ◌*◌, List, [], ◌∷◌, None, Some, fold, length, ⊤}
use Rattle.std.specs.Option.{option_map_or}
use Rattle.std.specs.FinMap.{get, insert}
use Rattle.dubp_atoms.specs.Same.{Text}
use Rattle.dubp_block.specs.declared.block.Block.{Block}
use Rattle.dubp_block.specs.declared.block.IdentityLine.{IdentityLine}
use Rattle.dubp_block.specs.declared.block.MemberLine.{MemberLine}
use Rattle.dubp_iindex.specs.Rows.{Rows}
use Rattle.dubp_iindex.specs.declared.row.IdentityRow.{IdentityRow}

-- the row of a new identity, written in the block of this number; nobody is a member by it
abbrev pub row_of : ℕ → IdentityLine → IdentityRow
row_of number line = record { uid = line.uid; stamp = line.stamp; sig = line.sig; written = number; member = false }

abbrev pub created : ℕ → Rows → IdentityLine → Rows
created number rows line = insert rows line.key (row_of number line)

-- the row with the member come or gone
abbrev pub row_with : Bool → IdentityRow → IdentityRow
row_with is row = record row { member = is }

abbrev pub with_member : Bool → Rows → Text → Rows
with_member is rows key = option_map_or (λ row. insert rows key (row_with is row)) (get rows key) rows

abbrev pub joined : Rows → MemberLine → Rows
joined rows line = with_member true rows line.key

-- section by section
abbrev pub after_identities : Block → Rows → Rows
after_identities b rows = fold (with_member false) (fold joined (fold (created b.number) rows b.identities) b.joiners) b.excluded

-- no two keys have one uid
abbrev pub UidsApart : Rows → Type 0
UidsApart rows = (k k' : Text) (row row' : IdentityRow) → get rows k ≡ Some row → get rows k' ≡ Some row' → row.uid ≡ row'.uid → k ≡ k'

-- each line is of a key without a row and of a uid that no row has, those of the lines before it included
pub record IsNewLine (rows : Rows) (line : IdentityLine) : Type 0 where
  pub key : get rows line.key ≡ None
  pub uid : (k : Text) (row : IdentityRow) → get rows k ≡ Some row → row.uid ≡ line.uid → ⊥

abbrev pub AreNewLines : ℕ → Rows → List IdentityLine → Type 0
AreNewLines number rows [] = ⊤
AreNewLines number rows (line ∷ lines) = IsNewLine rows line × AreNewLines number (created number rows line) lines

-- at most so many keys are set: 4 for each line that changes an identity
abbrev pub most_sets : Block → ℕ
most_sets b = 4 * (length b.identities + length b.joiners + length b.excluded)
