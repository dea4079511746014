use Rattle.std.specs.Bool.{IsTrue}
use Rattle.dubp_undo.specs.MovingTable.{get}
use Rattle.dubp_iindex.specs.Rows.{newest_rows, texts, is_member_at}
use Rattle.dubp_iindex.proofs.KeyOrder.{next-some, next-none, stands_member, member_stands}
use Rattle.dubp_iindex.proofs.index.IIndex.next_member.Goals as goal

pub returns-in-Some : goal.returns-in-Some
returns-in-Some c = λ s at.
    let m = c.args.self.now.tables.second.second.table.now in
    let e = c.in-Some.entry in
    next-some m (λ a. IsTrue (is_member_at (newest_rows s) a)) (λ q h. member_stands (is_member_at (newest_rows s) q) (get texts m q) (at.1.1 q) h) c.args.after e
    (stands_member (is_member_at (newest_rows s) e.0) (get texts m e.0) (at.1.1 e.0)) c.in-Some.ensures.found

pub returns-in-None : goal.returns-in-None
returns-in-None c = λ s at.
    let m = c.args.self.now.tables.second.second.table.now in
    next-none m (λ a. IsTrue (is_member_at (newest_rows s) a)) (λ q h. member_stands (is_member_at (newest_rows s) q) (get texts m q) (at.1.1 q) h) c.args.after c.in-None.ensures.none
