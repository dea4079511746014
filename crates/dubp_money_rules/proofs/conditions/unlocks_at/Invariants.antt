use Rattle.std.proofs.Common.{take}
use Rattle.dubp_money_rules.proofs.Opened.{AreOthers}
use Rattle.dubp_money_rules.proofs.conditions.unlocks_at.Given as goal

abbrev pub invariant-loop-line : goal.invariant-loop-line
invariant-loop-line l = AreOthers l.place (take l.line-index l.tx.unlocks)
