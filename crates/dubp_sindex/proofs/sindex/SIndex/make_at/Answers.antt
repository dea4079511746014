use Rattle.std.proofs.Common.{ℕ, ◌++◌, ◌∷◌, [], ◌∙◌, append-nil, filter, not}
use Rattle.dubp_sindex.specs.Rows.{Entry, is_before, with_row}
use Rattle.dubp_sindex.specs.States.{rows_of}
use Rattle.dubp_sindex.proofs.Derived.{free_behind, free_between, before_first, behind_rows, placed_rows}
use Rattle.dubp_sindex.proofs.Moves.{free_place, is_made}
use Rattle.dubp_sindex.proofs.Named.{known_by, known_kept, place_kept, linked_kept, known_behind, known_between}
use Rattle.dubp_sindex.proofs.sindex.SIndex.make_at.Goals as goal

pub returns-clause-at : goal.returns-clause-at
returns-clause-at g c = λ s t at are new.
    let rows = rows_of s in
    let id = c.args.id.now in
    let e : Entry = (id, c.args.row) in
    let o = c.args.self.now.origins in
    let o' = c.add.new.self in
    let keeps = c.in_ok-name.ensures.keeps in
    let all = known_kept o o' keeps rows at.2 in
    let k = known_by o' id c.in_ok-name.name c.in_ok-name.ensures.name in
    let at_rows = λ (q : ℕ). at.0.1 q ∙ linked_kept o o' keeps q rows at.2 in
    let free = free_behind rows e new in
    let was = c.get-balance.ensures ∙ at.0.2 c.args.row.account in
    let last = c.last_of.ensures c.args.row.account rows are was in
    let order = behind_rows rows e are new in (
      c.in_ok-put.ensures.at o' rows (rows ++ e ∷ []) (λ x. at.0.0 x ∙ place_kept o o' keeps x rows at.2, at_rows, at.0.2)
          (is_made o' rows rows e [] (append-nil rows) are order.rises free all k.0 new.in_range new.fits c.in_ok-name.name k.1 c.get-balance.result was c.units_of.result c.units_of.ensures
          c.neighbours-before.result.0 c.neighbours-before.result.1 c.to-here.result
          (c.neighbours-before.ensures.before o' c.args.row.account rows at_rows are last (free_place rows e free))
          (c.neighbours-before.ensures.after o' c.args.row.account rows at_rows are last (free_place rows e free))
          c.to-here.ensures c.join.result c.join.ensures),
      order,
      known_behind o' e rows k.0 all,
    )

pub returns-clause-between : goal.returns-clause-between
returns-clause-between g c = λ s t at are new.
    let rows = rows_of s in
    let id = c.args.id.now in
    let e : Entry = (id, c.args.row) in
    let o = c.args.self.now.origins in
    let o' = c.add.new.self in
    let keeps = c.in_ok-name.ensures.keeps in
    let all = known_kept o o' keeps rows at.2 in
    let k = known_by o' id c.in_ok-name.name c.in_ok-name.ensures.name in
    let at_rows = λ (q : ℕ). at.0.1 q ∙ linked_kept o o' keeps q rows at.2 in
    let free = free_between rows e new in
    let was = c.get-balance.ensures ∙ at.0.2 c.args.row.account in
    let last = c.last_of.ensures c.args.row.account rows are was in
    let order = placed_rows rows e are new in (
      c.in_ok-put.ensures.at o' rows (with_row e rows) (λ x. at.0.0 x ∙ place_kept o o' keeps x rows at.2, at_rows, at.0.2)
          (is_made o' rows (filter (is_before e) rows) e (filter (λ x. not (is_before e x)) rows) (before_first rows e are.rises) are order.rises free all k.0 new.in_range new.fits c.in_ok-name.name k.1 c.get-balance.result was c.units_of.result c.units_of.ensures
          c.neighbours-before.result.0 c.neighbours-before.result.1 c.to-here.result
          (c.neighbours-before.ensures.before o' c.args.row.account rows at_rows are last (free_place rows e free))
          (c.neighbours-before.ensures.after o' c.args.row.account rows at_rows are last (free_place rows e free))
          c.to-here.ensures c.join.result c.join.ensures),
      order,
      known_between o' e rows k.0 all,
    )

pub returns-in_err-name-clause-stays : goal.returns-in_err-name-clause-stays
returns-in_err-name-clause-stays g c = λ n s is.
    let o = c.args.self.now.origins in
    let o' = c.add.new.self in
    let keeps = c.in_err-name.ensures.keeps in
    let rows = rows_of s in (
      (λ x. is.0.0 x ∙ place_kept o o' keeps x rows is.2, λ q. is.0.1 q ∙ linked_kept o o' keeps q rows is.2, is.0.2),
      is.1,
      known_kept o o' keeps rows is.2,
    )

pub returns-in_err-put-clause-stays : goal.returns-in_err-put-clause-stays
returns-in_err-put-clause-stays g c = λ n s is.
    let o = c.args.self.now.origins in
    let o' = c.add.new.self in
    let keeps = c.in_ok-name.ensures.keeps in
    let rows = rows_of s in (
      (λ x. is.0.0 x ∙ place_kept o o' keeps x rows is.2, λ q. is.0.1 q ∙ linked_kept o o' keeps q rows is.2, is.0.2),
      is.1,
      known_kept o o' keeps rows is.2,
    )

pub returns-clause-stays : goal.returns-clause-stays
returns-clause-stays g c = λ n s is.
    let o = c.args.self.now.origins in
    let o' = c.add.new.self in
    let keeps = c.in_ok-name.ensures.keeps in
    let rows = rows_of s in (
      (λ x. is.0.0 x ∙ place_kept o o' keeps x rows is.2, λ q. is.0.1 q ∙ linked_kept o o' keeps q rows is.2, is.0.2),
      is.1,
      known_kept o o' keeps rows is.2,
    )
