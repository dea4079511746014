use Rattle.std.proofs.Common.{ap}
use Rattle.std.specs.FinMap.{empty, insert}
use Rattle.dubp_undo.specs.States.{newest}
use Rattle.dubp_cindex.specs.Rows.{received_in, number_if, issuer_in}
use Rattle.dubp_cindex.proofs.Making.{rows_put, received_by_put, keyed_put}
use Rattle.dubp_cindex.proofs.Puts.{received-other, issuer-other}
use Rattle.dubp_cindex.proofs.index.CIndex.make_all.Goals as goal

pub returns-clause-at : goal.returns-clause-at
returns-clause-at g c = λ s t a are.
    let rows = newest empty s in
    let from = c.args.from.now in
    let to = c.args.to.now in
    let changes = c.args.changes.now in
    let old = c.args.self.now.tables in
    let received = c.make_side.new.side in
    let issued = c.make_found.new.table in (
      rows_put rows from to changes.row old.first.table.now c.set.new.self.table.now a.0 c.in_ok-set.ensures.now,
      (
        received_by_put rows from to changes.row changes.pair are.pair_is old.second.tables.first.table.now received.tables.first.table.now a.1.0 c.in_ok-make_side.ensures.first,
        keyed_put (λ k. number_if (received_in rows k)) (λ k. number_if (received_in (insert rows (from, to) changes.row) k)) to changes.received old.second.tables.second.table.now received.tables.second.table.now a.1.1 c.in_ok-make_side.ensures.second are.received_is
            (λ k other. ap number_if (received-other rows from to changes.row k other)),
      ),
      keyed_put (issuer_in rows) (issuer_in (insert rows (from, to) changes.row)) from changes.issuer old.third.table.now issued.table.now a.2 c.in_ok-make_found.ensures.now are.issuer_is
          (λ k other. issuer-other rows from to changes.row k other),
    )
