use Rattle.std.proofs.Common.{inl, subst}
use Rattle.dubp_choosing.specs.States.{state_with}
use Rattle.dubp_replay.specs.Turns.{State, UnpendTurn}
use Rattle.dubp_turns.proofs.Pending.{gone_turn, absent_turn}
use Rattle.dubp_turns.proofs.node.Node.unpend.Goals as goal

pub returns-then-remove : goal.returns-then-remove
returns-then-remove g c = λ frame bytes handed.
    let s = c.self.inside in
    let old = state_with s.pool s.branches s.auto s.failures.items in
    let new = state_with c.remove.new.self s.branches s.auto s.failures.items in
    let turn = gone_turn old c.args.hash c.put_forgotten.new.line.items c.remove.new.self (let is = c.if-remove.true in let was = c.remove.ensures.was in cc) c.remove.ensures.left c.put_forgotten.ensures in
    inl (subst (λ (x : State). UnpendTurn x c.args.hash c.put_forgotten.new.line.items new) c.self.view_is turn)

pub returns : goal.returns
returns g c = λ frame bytes handed.
    let s = c.self.inside in
    let old = state_with s.pool s.branches s.auto s.failures.items in
    let new = state_with c.remove.new.self s.branches s.auto s.failures.items in
    let turn = absent_turn old c.args.hash c.put_unknown.new.line.items c.remove.new.self (let is = c.if-remove.false in let was = c.remove.ensures.was in cc) c.remove.ensures.left c.put_unknown.ensures in
    inl (subst (λ (x : State). UnpendTurn x c.args.hash c.put_unknown.new.line.items new) c.self.view_is turn)
