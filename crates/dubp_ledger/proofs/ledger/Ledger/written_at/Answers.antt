use Rattle.std.proofs.Common.{arith}
use Rattle.dubp_ledger.proofs.Tracing.{is_there}
use Rattle.dubp_ledger.proofs.ledger.Ledger.written_at.Goals as goal

pub returns-then-number-len : goal.returns-then-number-len
returns-then-number-len g c = omega (arith, c.if-number-len.true, c.len-len.ensures)

pub returns : goal.returns
returns g c = is_there c.written_before.result _ _ c.written_before.ensures
