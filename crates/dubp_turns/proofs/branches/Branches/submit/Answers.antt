use Rattle.dubp_turns.proofs.Decisions.{said_ok, said_err}
use Rattle.dubp_turns.proofs.branches.Branches.submit.Goals as goal

pub returns-in-Ok : goal.returns-in-Ok
returns-in-Ok g c = said_ok _ _ c.args.read.block c.in-Ok.stamp (c.put_accepted.new.line.items) c.in-Ok.ensures c.put_accepted.ensures

pub returns-in-Err : goal.returns-in-Err
returns-in-Err g c = said_err _ _ c.args.read.block c.in-Err.refusal (c.put_refusal.new.line.items) c.in-Err.ensures c.put_refusal.ensures
