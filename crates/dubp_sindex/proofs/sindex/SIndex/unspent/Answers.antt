use Rattle.std.proofs.Common.{◌≡◌, Some, ap, sym, ◌∙◌}
use Rattle.dubp_sindex.specs.Origins.{name_of}
use Rattle.dubp_sindex.specs.Derived.{place_at}
use Rattle.dubp_sindex.specs.States.{rows_of}
use Rattle.dubp_sindex.proofs.Moves.{unnamed_row, row_by_name, row_there_by_name}
use Rattle.dubp_sindex.proofs.Named.{known_by, unknown_by, none_unknown}
use Rattle.dubp_sindex.proofs.Sources.{row_none}
use Rattle.dubp_sindex.proofs.sindex.SIndex.unspent.Goals as goal

pub returns-in_err-name : goal.returns-in_err-name
returns-in_err-name c = λ s at.
    let o = c.args.self.now.origins in
    let id = c.args.id in
    c.from_residual.ensures ∙ sym (row_none id (rows_of s) (none_unknown o id (unknown_by o id (sym c.in_err-name.ensures)) (rows_of s) at.2))

pub returns-in_err-place : goal.returns-in_err-place
returns-in_err-place c = λ s at.
    let o = c.args.self.now.origins in
    let id = c.args.id in
    let k = known_by o id c.in_ok-name.name (sym c.in_ok-name.ensures) in
    c.from_residual-in_err-place.ensures ∙ sym (unnamed_row o id (rows_of s) at.1 at.2 k.0 (ap (λ n. place_at o n (rows_of s)) (sym k.1) ∙ sym (at.0.0 c.in_ok-name.name) ∙ sym c.in_err-place.ensures))

pub returns-in_err-linked : goal.returns-in_err-linked
returns-in_err-linked c = λ s at.
    let o = c.args.self.now.origins in
    let id = c.args.id in
    let k = known_by o id c.in_ok-name.name (sym c.in_ok-name.ensures) in
    let place : place_at o (name_of o id) (rows_of s) ≡ Some c.in_ok-place.place = ap (λ n. place_at o n (rows_of s)) (sym k.1) ∙ sym (at.0.0 c.in_ok-name.name) ∙ sym c.in_ok-place.ensures in
    absurd (row_there_by_name o id (rows_of s) at.1 at.2 k.0 c.in_ok-place.place place (sym (at.0.1 c.in_ok-place.place) ∙ sym c.in_err-linked.ensures))

pub returns : goal.returns
returns c = λ s at.
    let o = c.args.self.now.origins in
    let id = c.args.id in
    let k = known_by o id c.in_ok-name.name (sym c.in_ok-name.ensures) in
    let place : place_at o (name_of o id) (rows_of s) ≡ Some c.in_ok-place.place = ap (λ n. place_at o n (rows_of s)) (sym k.1) ∙ sym (at.0.0 c.in_ok-name.name) ∙ sym c.in_ok-place.ensures in
    row_by_name o id (rows_of s) at.1 at.2 k.0 c.in_ok-place.place c.in_ok-linked.linked place (sym (at.0.1 c.in_ok-place.place) ∙ sym c.in_ok-linked.ensures)
