use Rattle.std.proofs.Common.{arith}
use Rattle.dubp_validity.proofs.record.put_record.Goals as goal

pub returns-in-Active : goal.returns-in-Active
returns-in-Active c = record { text = rw c.in-Active.is c.put_timed-in-Active.ensures.text; room = omega (arith, c.put_timed-in-Active.ensures.room) }

pub returns-in-Dividend : goal.returns-in-Dividend
returns-in-Dividend c = record { text = rw c.in-Dividend.is c.put_moved-in-Dividend.ensures.text; room = omega (arith, c.put_moved-in-Dividend.ensures.room) }
