use Rattle.std.proofs.Common.{◌∙◌, ap, drop, length, take, arith}
use Rattle.dubp_ledger.proofs.Tracing.{held_off}
use Rattle.dubp_ledger.proofs.ledger.Ledger.hold.Goals as goal

pub invariant_of-self-2 : goal.invariant_of-self-2
invariant_of-self-2 g c =
    let s = c.self.inside in
    let ready = c.ready.ensures.standing in
    let t = c.hold-2.ensures in
    let k = c.in_ok-held.ensures in
    held_off s.traces c.hold-2.new.self s.kept c.hold.new.self c.args.count c.self.invariant (t.standing ∙ ap (drop c.args.count) ready) (t.held ∙ ap (take c.args.count) ready) (omega (arith, t.within, ap length ready)) k.chain k.out
