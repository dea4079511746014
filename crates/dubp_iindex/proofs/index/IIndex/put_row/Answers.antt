use Rattle.std.proofs.Common.{◌≡◌, ◌∙◌, ap, subst}
use Rattle.std.specs.FinMap as map
use Rattle.dubp_undo.specs.MovingTable.{get}
use Rattle.dubp_iindex.specs.Rows.{newest_rows, texts, one, counts_of}
use Rattle.dubp_iindex.specs.Writing.{IsWritten, uid_write, member_write, was_member, counts_write}
use Rattle.dubp_iindex.proofs.Putting.{rows_put, uids_put, members_put, counts_put}
use Rattle.dubp_iindex.proofs.index.IIndex.put_row.Goals as goal

pub returns-clause-at : goal.returns-clause-at
returns-clause-at g c = λ s t at fits.
    let ready = c.make_ready.ensures in
    let now = c.in_ok-set_all.ensures in
    let w = c.in_ok-writes.writes in
    let row = c.args.row in
    let key = c.args.key in
    let are = c.in_ok-writes.ensures in
    let was : c.get-old.result ≡ map.get (newest_rows s) key = c.get-old.ensures ∙ at.0 key in
    let before : c.get-counts.result ≡ counts_of (newest_rows s) = c.get-counts.ensures ∙ at.1.2 tt in
    let uid : w.uid ≡ uid_write (map.get (newest_rows s) key) key = are.uid ∙ ap (λ o. uid_write o key) was in
    let member : w.member ≡ member_write (was_member (map.get (newest_rows s) key)) row.member = are.member ∙ ap (λ o. member_write (was_member o) row.member) was in
    let numbers : w.counts ≡ counts_write (counts_of (newest_rows s)) (map.get (newest_rows s) key) row =
    are.counts ∙ ap (λ o. counts_write c.get-counts.result o row) was ∙ ap (λ o. counts_write o (map.get (newest_rows s) key) row) before in
    let rows = newest_rows s in
    let mid = c.make_ready.new.self.tables in
    let after = c.set_all.new.self.tables in (
      rows_put rows key row mid.first.table.now after.first.table.now now.rows (λ q. ap (λ m. get texts m.0 q) ready.now ∙ at.0 q),
      (
        uids_put rows key row fits mid.second.first.table.now after.second.first.table.now
            (subst (λ o. IsWritten texts row.uid o mid.second.first.table.now after.second.first.table.now) uid now.uids) (λ q. ap (λ m. get texts m.1.0 q) ready.now ∙ at.1.0 q),
        members_put rows key row mid.second.second.table.now after.second.second.table.now
            (subst (λ o. IsWritten texts key o mid.second.second.table.now after.second.second.table.now) member now.members) (λ q. ap (λ m. get texts m.1.1.0 q) ready.now ∙ at.1.1 q),
        counts_put rows key row mid.second.third.table.now after.second.third.table.now
            (subst (λ o. IsWritten one tt o mid.second.third.table.now after.second.third.table.now) numbers now.counts) (λ q. ap (λ m. get one m.1.1.1 q) ready.now ∙ at.1.2 q),
      ),
    )
