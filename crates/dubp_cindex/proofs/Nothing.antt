-- The tables of the state in which nothing is written.
use Rattle.std.proofs.Common.{◌≡◌, cond, List, [], ◌∷◌, Option, Some, None, refl, ap, sym, ◌∙◌, length, arith}
use Rattle.std.specs.Prelude.{count_by}
use Rattle.std.specs.List.{list_any}
use Rattle.std.specs.FinMap.{entries, empty, len-entries, len-empty, get-empty}
use Rattle.dubp_atoms.specs.Same.{Text}
use Rattle.std.specs.declared.cmp.Ordering.{Ordering}
use Rattle.dubp_undo.specs.Definition.{IsAt}
use Rattle.dubp_cindex.specs.declared.row.CertRow.{CertRow}
use Rattle.dubp_cindex.specs.Orders.{pair_cmp, Place}
use Rattle.dubp_cindex.specs.Rows.{Entry, live_to, is_from, lives, one_if, number_if, stock_in, written_in, rows_along, received_by_along, received_along, issuers_along}

no_length : {A : Type 0} (es : List A) → length es ≡ 0 → es ≡ []
no_length [] e = refl
no_length (x ∷ es) e = absurd (omega arith)

pub entries-empty : entries (empty {X = CertRow} {R = pair_cmp}) ≡ []
entries-empty = no_length _ (sym (len-entries (empty {X = CertRow} {R = pair_cmp})) ∙ len-empty pair_cmp CertRow)

rows_second : (from : Text) (second : Option Text) → rows_along [] (from, second) ≡ None
rows_second from None = refl
rows_second from (Some to) = get-empty pair_cmp (from, to)

pub rows_nothing : (k : Place) → rows_along [] k ≡ None
rows_nothing k = rows_second k.0 k.1

received_by_second : (to : Text) (second : Option Text) → received_by_along [] (to, second) ≡ None
received_by_second to None = refl
received_by_second to (Some from) = ap (λ r. one_if (lives r)) (get-empty pair_cmp (from, to))

pub received_by_nothing : (k : Place) → received_by_along [] k ≡ None
received_by_nothing k = received_by_second k.0 k.1

pub received_nothing : (k : Text) → received_along [] k ≡ None
received_nothing k = ap (λ (es : List Entry). number_if (count_by (live_to k) es)) entries-empty

pub issuers_nothing : (k : Text) → issuers_along [] k ≡ None
issuers_nothing k =
    ap (λ b. cond b (Some (record { stock = stock_in (empty {X = CertRow} {R = pair_cmp}) k; written = written_in (empty {X = CertRow} {R = pair_cmp}) k })) None) (ap (list_any (is_from k)) entries-empty)

-- an empty table is that of the chain without a state
pub at_nothing : {B K V : Type 0} (cmp : K → K → Ordering) (definition : List B → K → Option V) (m : List (K × V)) → m ≡ [] → ((k : K) → definition [] k ≡ None) → IsAt cmp definition m []
at_nothing cmp definition m e none = rw e (λ k. sym (none k))
