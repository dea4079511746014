use Rattle.std.proofs.Common.{subst, sym}
use Rattle.dubp_people_and_money.specs.OfKept.{IsAsHeld, IsHeldBy}
use Rattle.dubp_ledger.proofs.Tracing.{can_come, comes_back}
use Rattle.dubp_ledger.proofs.ledger.Ledger.restore.Goals as goal

pub put_back-requires : goal.put_back-requires
put_back-requires g c =
    let s = c.self.inside in
    can_come s.traces s.kept c.args.held c.self.invariant (subst (λ k. IsHeldBy c.args.held k.out) (sym c.self.view_is) c.requires.held) (subst (λ k. IsAsHeld k.chain k.out) (sym c.self.view_is) c.requires.chain)

pub invariant_of-self : goal.invariant_of-self
invariant_of-self g c =
    let s = c.self.inside in
    comes_back s.traces c.put_back.new.self s.kept c.restore.new.self c.args.held c.self.invariant (subst (λ k. IsHeldBy c.args.held k.out) (sym c.self.view_is) c.requires.held) (subst (λ k. IsAsHeld k.chain k.out) (sym c.self.view_is) c.requires.chain) c.put_back.ensures.standing c.restore.ensures.restored
