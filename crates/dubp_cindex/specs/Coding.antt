-- The code of the rows: that of a list of entries. Nothing rests on it but that rows can be told apart.
use Rattle.std.specs.Prelude.{ℕ, Bool, refl}
use Rattle.std.specs.Coded.{Coded, code_by, coded×, coded_ℕ, coded_bool, coded_list}
use Rattle.std.specs.FinMap as map
use Rattle.dubp_cindex.specs.declared.row.CertRow.{CertRow}
use Rattle.dubp_cindex.specs.Orders.{pair_cmp}

abbrev pub row_code : Coded CertRow
row_code =
    code_by (ℕ × (ℕ × Bool)) (coded× coded_ℕ (coded× coded_ℕ coded_bool)) (λ r. (r.made, (r.written, r.live))) (λ p. record { made = p.0; written = p.1.0; live = p.1.1 }) (λ _. refl)

abbrev pub rows_code : Coded (map.FinMap pair_cmp CertRow)
rows_code = map.code (coded× (coded_list coded_ℕ) (coded_list coded_ℕ)) row_code
