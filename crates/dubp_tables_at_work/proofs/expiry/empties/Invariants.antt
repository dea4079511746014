use Rattle.std.specs.Prelude.{List}
use Rattle.dubp_expiry.specs.Entries.{Queued}
use Rattle.dubp_expiry.specs.contracts.queue.QueueCounts.TheImpl as counted
use Rattle.dubp_expiry.specs.contracts.queue.QueueTablesEntries.TheImpl as tables
use Rattle.dubp_tables_at_work.proofs.expiry.empties.Given as goal

-- the table is that of some state
abbrev pub invariant-taking : goal.invariant-taking
invariant-taking g l = (s : List Queued) × (tables.ghosts).at l.queue s

-- an entry fewer each time
abbrev pub decreases-taking : goal.decreases-taking
decreases-taking g l = (counted.ghosts).entries l.queue
