-- The certifications that are written: a row for each pair of an issuer and a receiver, and what is counted in them. Protocol: certifications, tables.
use Rattle.std.specs.Prelude.{ℕ, Bool, false, ◌&&◌, cond, ◌==◌, List, [], ◌∷◌, ◌++◌, Option, Some, None, map, filter, count_by, max}
use Rattle.std.specs.List.{list_any}
use Rattle.std.specs.Option.{option_map_or}
use Rattle.std.specs.FinMap.{FinMap, entries, get, empty}
use Rattle.dubp_atoms.specs.Same.{Text, same_text}
use Rattle.dubp_undo.specs.States.{newest}
use Rattle.dubp_cindex.specs.declared.row.CertRow.{CertRow}
use Rattle.dubp_cindex.specs.declared.row.IssuerRow.{IssuerRow}
use Rattle.dubp_cindex.specs.Orders.{pair_cmp, Place}

-- the rows, under pairs of the issuer and the receiver, and in this order
abbrev pub Rows : Type 0
Rows = FinMap pair_cmp CertRow

abbrev pub Entry : Type 0
Entry = (Text × Text) × CertRow

-- a live row to the key, and one from it; and any row from it
abbrev pub live_to : Text → Entry → Bool
live_to k e = same_text k e.0.1 && e.1.live

abbrev pub live_from : Text → Entry → Bool
live_from k e = same_text k e.0.0 && e.1.live

abbrev pub is_from : Text → Entry → Bool
is_from k e = same_text k e.0.0

-- how many certifications live that the key has received, and how many that it has issued
abbrev pub received_in : Rows → Text → ℕ
received_in rows k = count_by (live_to k) (entries rows)

abbrev pub stock_in : Rows → Text → ℕ
stock_in rows k = count_by (live_from k) (entries rows)

-- the block in which the key last wrote a certification; 0 where it wrote none
abbrev pub greatest : List ℕ → ℕ
greatest [] = 0
greatest (n ∷ ns) = max n (greatest ns)

abbrev pub written_in : Rows → Text → ℕ
written_in rows k = greatest (map (λ e. e.1.written) (filter (is_from k) (entries rows)))

-- both, for a key that has ever certified
abbrev pub issuer_in : Rows → Text → Option IssuerRow
issuer_in rows k = cond (list_any (is_from k) (entries rows)) (Some (record { stock = stock_in rows k; written = written_in rows k })) None

-- the pairs whose certification lives, in order
abbrev pub live_pairs : Rows → List (Text × Text)
live_pairs rows = map (λ e. e.0) (filter (λ e. e.1.live) (entries rows))

-- who has a live certification to the key, in order
abbrev pub issuers_to : Rows → Text → List Text
issuers_to rows to = map (λ e. e.0.0) (filter (live_to to) (entries rows))

-- the live rows to the key, by issuer, and then those from it, by receiver: the issuer, the receiver and the row
abbrev pub told : Entry → Text × Text × CertRow
told e = (e.0.0, e.0.1, e.1)

abbrev pub rows_about : Rows → Text → List (Text × Text × CertRow)
rows_about rows key = map told (filter (live_to key) (entries rows)) ++ map told (filter (live_from key) (entries rows))

-- ---- The tables of the index, along a chain of states.

-- the row of a pair
abbrev pub row_at : Rows → Text → Option Text → Option CertRow
row_at rows from None = None
row_at rows from (Some to) = get rows (from, to)

abbrev pub rows_along : List Rows → Place → Option CertRow
rows_along states k = row_at (newest empty states) k.0 k.1

-- whether a row is there and lives
abbrev pub lives : Option CertRow → Bool
lives row = option_map_or (λ r. r.live) row false

abbrev pub one_if : Bool → Option (Unit {0})
one_if b = cond b (Some tt) None

-- the live pairs, the receiver first
abbrev pub received_by_at : Rows → Text → Option Text → Option (Unit {0})
received_by_at rows to None = None
received_by_at rows to (Some from) = one_if (lives (get rows (from, to)))

abbrev pub received_by_along : List Rows → Place → Option (Unit {0})
received_by_along states k = received_by_at (newest empty states) k.0 k.1

-- a count, where it is not 0
abbrev pub number_if : ℕ → Option ℕ
number_if n = cond (n == 0) None (Some n)

abbrev pub received_along : List Rows → Text → Option ℕ
received_along states k = number_if (received_in (newest empty states) k)

abbrev pub issuers_along : List Rows → Text → Option IssuerRow
issuers_along states k = issuer_in (newest empty states) k
