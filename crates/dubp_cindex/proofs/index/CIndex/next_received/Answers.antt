use Rattle.std.specs.FinMap.{empty}
use Rattle.dubp_undo.specs.States.{newest}
use Rattle.dubp_cindex.proofs.Told.{next-some, next-none}
use Rattle.dubp_cindex.proofs.index.CIndex.next_received.Goals as goal

pub returns-in_err-issuer : goal.returns-in_err-issuer
returns-in_err-issuer c = λ s a. rw c.from_residual.ensures (next-none (newest empty s) c.args.to c.args.self.now.tables.second.tables.first.table.now a.1.0 c.args.after c.in_err-issuer.ensures)

pub returns : goal.returns
returns c = λ s a. next-some (newest empty s) c.args.to c.args.self.now.tables.second.tables.first.table.now a.1.0 c.args.after c.in_ok-issuer.issuer c.in_ok-issuer.ensures
