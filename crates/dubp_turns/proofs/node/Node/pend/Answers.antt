use Rattle.std.proofs.Common.{subst}
use Rattle.dubp_replay.specs.Turns.{State}
use Rattle.dubp_choosing.specs.States.{state_with}
use Rattle.dubp_turns.specs.Acting.{PendActs}
use Rattle.dubp_turns.proofs.Pending.{pended}
use Rattle.dubp_turns.proofs.node.Node.pend.Goals as goal

pub returns : goal.returns
returns g c = λ short.
    let s = c.self.inside in
    subst (λ (x : State). PendActs x c.args.frame.now (c.put_pend.new.line.items) (state_with c.add.new.self s.branches s.auto s.failures.items)) c.self.view_is
    (pended (state_with s.pool s.branches s.auto s.failures.items) c.args.frame.now (c.put_pend.new.line.items) c.add.new.self short c.add.result c.add.ensures c.put_pend.ensures)
