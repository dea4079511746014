-- The table of handicaps, whose rows are T(0), T(1) and so on. Protocol: difficulty of an issuer.
use Rattle.std.specs.Prelude.{◌≡◌, ℕ, zero, suc, ◌*◌, ◌<◌, List, [], ◌∷◌, length, slice_index, Bool, true, ◌==◌, ◌&&◌}
use Rattle.std.specs.Int.{div_ceil}

-- the row after a row: it × 1.189, rounded up
abbrev pub row_after : ℕ → ℕ
row_after t = div_ceil (t * 1189) 1000

-- T(h), the row of the handicap h
unfoldable pub table_row : ℕ → ℕ
table_row zero = 1000000
table_row (suc h) = row_after (table_row h)

-- the rows are those of T, from T(0) on
abbrev pub AreTableRows : List ℕ → Type 0
AreTableRows rows = (h : ℕ) → h < length rows → slice_index rows h ≡ table_row h

-- The same as a test that computes on a table: the first row is t, and each row is the one after the row before.
abbrev pub is_table_from : ℕ → List ℕ → Bool
is_table_from t [] = true
is_table_from t (row ∷ rows) = (row == t) && is_table_from (row_after t) rows

abbrev pub is_table : List ℕ → Bool
is_table rows = is_table_from 1000000 rows
