use Rattle.std.proofs.Common.{ap}
use Rattle.dubp_ledger.proofs.Tracing.{fewer}
use Rattle.dubp_ledger.proofs.ledger.Ledger.revert.Goals as goal

pub invariant_of-self : goal.invariant_of-self
invariant_of-self g c =
    let s = c.self.inside in
    let t = c.take_off.ensures in
    fewer s.traces c.take_off.new.self s.kept c.take_off-2.new.self c.args.count c.self.invariant t.standing t.held t.room (ap (λ k. k.chain) c.take_off-2.ensures.taken) (ap (λ k. k.out) c.take_off-2.ensures.taken)
