use Rattle.std.specs.Prelude.{IsTrue}
use Rattle.dubp_undo.specs.MovingTable.{get}
use Rattle.dubp_left.specs.OfChain.{is_to_be_excluded}
use Rattle.dubp_iindex.specs.Rows.{texts}
use Rattle.dubp_iindex.proofs.KeyOrder.{next-some, stands_member, member_stands}
use Rattle.dubp_registry.proofs.registry.Registry.next_kicked.Goals as goal

pub returns-in-Some : goal.returns-in-Some
returns-in-Some c = λ chain at.
    let m = c.args.self.now.tables.second.tables.second.table.now in
    next-some m (λ k. IsTrue (is_to_be_excluded chain k)) (λ q h. member_stands (is_to_be_excluded chain q) (get texts m q) (at.1.1 q) h) c.args.after c.in-Some.entry
    (stands_member (is_to_be_excluded chain c.in-Some.entry.0) (get texts m c.in-Some.entry.0) (at.1.1 c.in-Some.entry.0)) c.in-Some.ensures.found
