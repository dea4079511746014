use Rattle.dubp_forks.specs.Stores.{state_of}
use Rattle.dubp_forks.proofs.Offered.{checked_added}
use Rattle.dubp_forks.proofs.store.Store.check.Goals as goal

pub returns-in-Ok-None-clause-checked : goal.returns-in-Ok-None-clause-checked
returns-in-Ok-None-clause-checked g c =
    checked_added (state_of c.args.verdicts.now c.args.ledger.now c.args.self.now) c.args.block.now c.add.result c.add.new.self (rw c.in-Ok-None.field-0-is at c.in-Ok-None.ensures) (c.add.ensures.added c.args.verdicts.now)
