use Rattle.std.proofs.Common.{arith}
use Rattle.dubp_turns.proofs.Turns.{long_offer_acts}
use Rattle.dubp_turns.proofs.node.Node.act_offer.Goals as goal

pub returns-then-len : goal.returns-then-len
returns-then-len g c = long_offer_acts c.args.self.now c.laws.ensures.failures c.args.len c.args.frame.now _ (omega (arith, c.if-len.true)) c.put_refused.ensures
