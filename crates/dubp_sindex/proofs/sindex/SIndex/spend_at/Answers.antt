use Rattle.std.proofs.Common.{◌≡◌, Some, ap, sym, subst, ◌∙◌}
use Rattle.dubp_sindex.specs.Origins.{name_of}
use Rattle.dubp_sindex.specs.Rows.{AreRows, without}
use Rattle.dubp_sindex.specs.Derived.{place_at, linked_at, balance_at}
use Rattle.dubp_sindex.specs.States.{rows_of}
use Rattle.dubp_sindex.proofs.Derived.{none_gone, left_rows}
use Rattle.dubp_sindex.proofs.Moves.{is_gone, unnamed_row, row_there_by_name}
use Rattle.dubp_sindex.proofs.Named.{known_by, unknown_by, none_unknown, known_left}
use Rattle.dubp_sindex.proofs.Sources.{no_row}
use Rattle.dubp_sindex.proofs.sindex.SIndex.spend_at.Goals as goal

-- a source without a name or without a place leaves all as it is
pub returns-in_default-clause-at : goal.returns-in_default-clause-at
returns-in_default-clause-at g c = λ s t at are.
    let o = c.args.self.now.origins in
    let id = c.args.id.now in
    let none = none_unknown o id (unknown_by o id (sym c.in_default.ensures)) (rows_of s) at.2 in
    let same = none_gone (rows_of s) id none in (
      (
        λ x. at.0.0 x ∙ ap (place_at o x) (sym same),
        λ q. at.0.1 q ∙ ap (linked_at o q) (sym same),
        λ a. at.0.2 a ∙ ap (balance_at a) (sym same),
      ),
      subst AreRows (sym same) are,
      known_left o id (rows_of s) at.2,
    )

pub returns-in_default-get-clause-at : goal.returns-in_default-get-clause-at
returns-in_default-get-clause-at g c = λ s t at are.
    let o = c.args.self.now.origins in
    let id = c.args.id.now in
    let name = c.in-Some.name in
    let k = known_by o id name (sym c.in-Some.ensures) in
    let none = no_row id (rows_of s) (unnamed_row o id (rows_of s) are at.2 k.0 (ap (λ n. place_at o n (rows_of s)) (sym k.1) ∙ sym (at.0.0 name) ∙ sym c.in_default-get.ensures)) in
    let same = none_gone (rows_of s) id none in (
      (
        λ x. at.0.0 x ∙ ap (place_at o x) (sym same),
        λ q. at.0.1 q ∙ ap (linked_at o q) (sym same),
        λ a. at.0.2 a ∙ ap (balance_at a) (sym same),
      ),
      subst AreRows (sym same) are,
      known_left o id (rows_of s) at.2,
    )

pub returns-in_default-get-2-clause-at : goal.returns-in_default-get-2-clause-at
returns-in_default-get-2-clause-at g c = λ s t at are.
    let o = c.args.self.now.origins in
    let id = c.args.id.now in
    let name = c.in-Some.name in
    let k = known_by o id name (sym c.in-Some.ensures) in
    let place : place_at o (name_of o id) (rows_of s) ≡ Some c.in-Some-get.place = ap (λ n. place_at o n (rows_of s)) (sym k.1) ∙ sym (at.0.0 name) ∙ sym c.in-Some-get.ensures in
    absurd (row_there_by_name o id (rows_of s) are at.2 k.0 c.in-Some-get.place place (sym (at.0.1 c.in-Some-get.place) ∙ sym c.in_default-get-2.ensures))

pub returns-clause-at : goal.returns-clause-at
returns-clause-at g c = λ s t at are.
    let o = c.args.self.now.origins in
    let rows = rows_of s in
    let id = c.args.id.now in
    let name = c.in-Some.name in
    let k = known_by o id name (sym c.in-Some.ensures) in
    let row = c.in-Some-get-2.linked in (
      c.in_ok-put.ensures.at o rows (without id rows) at.0
          (is_gone o id name k.1 rows c.in-Some-get.place row are at.2 k.0 (sym (at.0.0 name) ∙ sym c.in-Some-get.ensures) (sym (at.0.1 c.in-Some-get.place) ∙ sym c.in-Some-get-2.ensures)
          c.get-3.result (c.get-3.ensures ∙ at.0.2 row.row.account) c.units_of.result c.units_of.ensures c.part.result c.part.ensures),
      left_rows rows id are,
      known_left o id rows at.2,
    )
