-- What becomes of each table where a row is put, and the greatest block of an issuer's rows but one. Protocol: certifications, tables.
use Rattle.std.specs.Prelude.{◌≡◌, ℕ, ◌≤◌, Option, IfSome, IsSomeAnd, ◌⊎◌}
use Rattle.std.specs.FinMap.{get, insert}
use Rattle.dubp_atoms.specs.Same.{Text}
use Rattle.dubp_cindex.specs.declared.row.CertRow.{CertRow}
use Rattle.dubp_cindex.specs.declared.row.IssuerRow.{IssuerRow}
use Rattle.dubp_cindex.specs.declared.changing.Change.{Change}
use Rattle.dubp_cindex.specs.declared.changing.Change.TheVariants.{Stays}
use Rattle.dubp_cindex.specs.Rows.{Rows, lives, one_if, number_if, received_in, issuer_in}
use Rattle.dubp_cindex.specs.Changes.{changed}

-- these changes, beside the row itself, are those of the tables where the row is put
pub record AreChanges (rows : Rows) (from to : Text) (row : CertRow) (pair : Change (Unit {0})) (received : Change ℕ) (issuer : Change IssuerRow) : Type 0 where
  pub pair_is : changed pair (one_if (lives (get rows (from, to)))) ≡ one_if row.live
  pub received_is : changed received (number_if (received_in rows to)) ≡ number_if (received_in (insert rows (from, to) row) to)
  pub issuer_is : changed issuer (issuer_in rows from) ≡ issuer_in (insert rows (from, to) row) from
  pub pair_stays : lives (get rows (from, to)) ≡ row.live → pair ≡ Stays
  pub received_stays : lives (get rows (from, to)) ≡ row.live → received ≡ Stays
  pub issuer_stays : issuer_in (insert rows (from, to) row) from ≡ issuer_in rows from → issuer ≡ Stays

-- n is the greatest of `least` and of the blocks of an issuer's rows to others than `to`, where `rows` has its row to each
pub record IsGreatestBesides (rows : Text → Option CertRow) (to : Text) (least n : ℕ) : Type 0 where
  pub above_least : least ≤ n
  pub bound : (y : Text) → (y ≡ to → ⊥) → IfSome (rows y) (λ r. r.written ≤ n)
  pub stands : (n ≡ least) ⊎ ((y : Text) × (y ≡ to → ⊥) × IsSomeAnd (rows y) (λ r. r.written ≡ n))
