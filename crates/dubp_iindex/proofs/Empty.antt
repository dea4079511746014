-- The tables of no rows are empty.
use Rattle.std.proofs.Common.{◌≡◌, List, [], ◌∷◌, Option, None, length, refl, sym, ap, ◌∙◌, arith}
use Rattle.std.specs.Prelude.{find, option_map}
use Rattle.std.specs.declared.cmp.Ordering.{Ordering}
use Rattle.std.specs.FinMap.{empty, entries, get-empty, len-empty, len-entries}
use Rattle.dubp_atoms.specs.Same.{Text}
use Rattle.dubp_undo.specs.Definition.{IsAt}
use Rattle.dubp_iindex.specs.declared.row.IdentityRow.{IdentityRow}
use Rattle.dubp_iindex.specs.Rows.{texts, has_uid, row_at, key_at, member_at, counts_at}

nil_of_length : {X : Type 0} (xs : List X) → length xs ≡ 0 → xs ≡ []
nil_of_length [] e = refl
nil_of_length (x ∷ xs) e = absurd (omega (arith, e))

no_entries : entries (empty {X = IdentityRow} {R = texts}) ≡ []
no_entries = nil_of_length (entries (empty {X = IdentityRow} {R = texts})) (sym (len-entries (empty {X = IdentityRow} {R = texts})) ∙ len-empty texts IdentityRow)

pub no_row : (key : Text) → None ≡ row_at [] key
no_row key = sym (get-empty texts key)

pub no_key : (uid : Text) → None ≡ key_at [] uid
no_key uid = sym (ap (λ es. option_map (λ (e : Text × IdentityRow). e.0) (find (has_uid uid) es)) no_entries)

pub no_member : (key : Text) → None ≡ member_at [] key
no_member key = rw (get-empty {X = IdentityRow} texts key) refl

pub no_counts_at : (k : Unit {0}) → None ≡ counts_at [] k
no_counts_at k = rw (len-empty texts IdentityRow) refl

-- the table of nothing is that of no rows, where these have nothing at any key
pub empty_at : {B K V : Type 0} (cmp : K → K → Ordering) (definition : List B → K → Option V) (m : List (K × V)) → m ≡ [] → ((k : K) → None ≡ definition [] k) → IsAt cmp definition m []
empty_at cmp definition m is none = rw is none
