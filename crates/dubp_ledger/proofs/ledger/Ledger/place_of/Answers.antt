use Rattle.std.proofs.Common.{◌∙◌, ◌-◌, sym, arith}
use Rattle.dubp_ledger.proofs.Places.{none_beyond, is_here, none_here}
use Rattle.dubp_ledger.proofs.ledger.Ledger.place_of.Goals as goal

pub returns-then-stamp-len : goal.returns-then-stamp-len
returns-then-stamp-len g c = none_beyond c.args.stamp.now c.args.self.now.chain c.laws.ensures.sound (omega (arith, c.if-stamp-len.true, c.len-len.ensures))

pub returns-then-is_stamp : goal.returns-then-is_stamp
returns-then-is_stamp g c =
    let count = c.len-len.result - 1 - c.args.stamp.now.number in
    is_here c.args.stamp.now c.args.self.now.chain c.laws.ensures.sound count (omega (arith, c.if-stamp-len.false, c.len-len.ensures)) (sym c.stamp_before.ensures ∙ c.is_stamp.ensures.0 c.if-is_stamp.true)

pub returns-else-is_stamp : goal.returns-else-is_stamp
returns-else-is_stamp g c =
    let count = c.len-len.result - 1 - c.args.stamp.now.number in
    none_here c.args.stamp.now c.args.self.now.chain c.laws.ensures.sound count (omega (arith, c.if-stamp-len.false, c.len-len.ensures))
    (λ e. let is = c.is_stamp.ensures.1 (c.stamp_before.ensures ∙ e) in let other = c.if-is_stamp.false in absurd cc)
