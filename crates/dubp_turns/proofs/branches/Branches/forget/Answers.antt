use Rattle.std.proofs.Common.{inl, sym, subst}
use Rattle.dubp_replay.specs.Turns.{Branches, ForgetTurn}
use Rattle.dubp_forks.specs.Stores.{AreOutside, state_of}
use Rattle.dubp_turns.proofs.Stored.{forgotten_turn, unknown_turn}
use Rattle.dubp_turns.proofs.Outside.{outside_without}
use Rattle.dubp_turns.proofs.branches.Branches.forget.Goals as goal

pub invariant_of-self : goal.invariant_of-self
invariant_of-self g c =
    let s = c.self.inside in
    (c.self.invariant.0, subst (λ x. AreOutside x s.ledger.chain) (sym c.forget.ensures.left) (outside_without c.args.stamp s.store s.ledger.chain c.self.invariant.1), c.self.invariant.2)

pub invariant_of-self-2 : goal.invariant_of-self-2
invariant_of-self-2 g c =
    let s = c.self.inside in
    (c.self.invariant.0, subst (λ x. AreOutside x s.ledger.chain) (sym c.forget.ensures.left) (outside_without c.args.stamp s.store s.ledger.chain c.self.invariant.1), c.self.invariant.2)

pub returns-then-forget : goal.returns-then-forget
returns-then-forget g c = λ frame bytes handed.
    let s = c.self.inside in
    let old = state_of s.verdicts s.ledger s.store in
    let new = state_of s.verdicts s.ledger c.forget.new.self in
    let turn : ForgetTurn old c.args.stamp c.put_forgotten.new.line.items new =
    forgotten_turn old c.args.stamp c.put_forgotten.new.line.items c.forget.new.self (let is = c.if-forget.true in let was = c.forget.ensures.was in cc) c.forget.ensures.left c.put_forgotten.ensures in
    inl (subst (λ (x : Branches). ForgetTurn x c.args.stamp c.put_forgotten.new.line.items new) c.self.view_is turn)

pub returns : goal.returns
returns g c = λ frame bytes handed.
    let s = c.self.inside in
    let old = state_of s.verdicts s.ledger s.store in
    let new = state_of s.verdicts s.ledger c.forget.new.self in
    let turn : ForgetTurn old c.args.stamp c.put_unknown.new.line.items new =
    unknown_turn old c.args.stamp c.put_unknown.new.line.items c.forget.new.self (let is = c.if-forget.false in let was = c.forget.ensures.was in cc) c.forget.ensures.left c.put_unknown.ensures in
    inl (subst (λ (x : Branches). ForgetTurn x c.args.stamp c.put_unknown.new.line.items new) c.self.view_is turn)
