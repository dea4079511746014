-- The rows of memberships after a block, as a finite map in the order of keys. Protocol: people, tables.
use Rattle.std.specs.Prelude.{ℕ, List, Option, Bool}
use Rattle.std.specs.Coded.{Coded, code_by, coded×, coded_ℕ, coded_bool}
use Rattle.std.specs.Cmp.Lexicographic.{slice_cmp}
use Rattle.std.specs.FinMap.{FinMap, get, empty}
use Rattle.std.specs.Ordering.{nat_cmp}
use Rattle.std.proofs.Common.{refl}
use Rattle.dubp_undo.specs.States.{newest}
use Rattle.dubp_mindex.specs.declared.member.MemberRow.{MemberRow}

-- the row of each key that has one
abbrev pub Members : Type 0
Members = FinMap (slice_cmp nat_cmp) MemberRow

-- the rows after the last block
abbrev pub members : List Members → Members
members states = newest empty states

-- the row that a key has after the last block
abbrev pub member_at : List Members → List ℕ → Option MemberRow
member_at states key = get (members states) key

-- a row as numbers
abbrev pub row_code : Coded MemberRow
row_code =
    code_by (ℕ × (ℕ × (ℕ × (Bool × Bool)))) (coded× coded_ℕ (coded× coded_ℕ (coded× coded_ℕ (coded× coded_bool coded_bool))))
    (λ r. (r.last_number, (r.made, (r.written, (r.leaving, r.revoked))))) (λ p. record { last_number = p.0; made = p.1.0; written = p.1.1.0; leaving = p.1.1.1.0; revoked = p.1.1.1.1 }) (λ _. refl)
