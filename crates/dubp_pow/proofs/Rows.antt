-- The rows of the table: what the test on a table tells of each, and that they do not fall.
use Rattle.std.proofs.Common.{◌≡◌, ℕ, zero, suc, ◌+◌, ◌<◌, ◌≤◌, List, [], ◌∷◌, length, true, refl, ap, ◌∙◌, arith, add-zero, add-suc}
use Rattle.std.specs.Prelude.{slice_index}
use Rattle.std.proofs.lemmas.Bool.Decides.{nat_tests}
use Rattle.dubp_pow.specs.Ladder.{table_row, row_after, is_table_from, is_table, AreTableRows}

table_row-suc : (h : ℕ) → table_row (suc h) ≡ row_after (table_row h)
unfolding table_row
table_row-suc h = refl

-- each row of a table that passes the test from row k on
is_table_from-table_row : (k : ℕ) (rows : List ℕ) → is_table_from (table_row k) rows ≡ true → (h : ℕ) → h < length rows → slice_index rows h ≡ table_row (k + h)
is_table_from-table_row k [] test h in_rows = absurd (omega arith)
is_table_from-table_row k (row ∷ rows) test zero in_rows = grind (arith, nat_tests)
is_table_from-table_row k (row ∷ rows) test (suc h) in_rows =
    let above : is_table_from (row_after (table_row k)) rows ≡ true = grind (arith, nat_tests) in
    let same : (suc k) + h ≡ k + (suc h) = omega arith in
    is_table_from-table_row (suc k) rows (rw table_row-suc above) h (omega arith) ∙ ap table_row same

pub ladder_rows : (rows : List ℕ) → is_table rows ≡ true → AreTableRows rows
unfolding table_row
ladder_rows rows test h in_rows = is_table_from-table_row 0 rows test h in_rows ∙ ap table_row (omega arith)

row_after-rises : (t : ℕ) → t ≤ row_after t
row_after-rises t = omega arith

pub table_row-rises : (h n : ℕ) → table_row h ≤ table_row (h + n)
table_row-rises h zero = rw add-zero (omega arith)
table_row-rises h (suc n) = omega (arith, table_row-rises h n, row_after-rises (table_row (h + n)), table_row-suc (h + n), ap table_row (add-suc h n))
