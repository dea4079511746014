use Rattle.std.proofs.Common.{◌≡◌, ◌≤◌, ℕ, length, min}
use Rattle.dubp_chain.specs.Chains.{Chain}
use Rattle.dubp_kept.specs.KeptChain.{StandsWithin, WaitsWithin}
use Rattle.dubp_kept.proofs.moves.trim.Given as goal

abbrev pub invariant-loop-tables : goal.invariant-loop-tables
invariant-loop-tables g l = record {
  stands : (c : Chain) → StandsWithin (g.T.Tables.is (g.T.Tables.names l.fn.tables)) (g.T.Tables.now l.fn.tables) (g.T.Tables.count l.fn.tables) (g.T.Tables.others l.fn.tables).kept c → StandsWithin (g.T.Tables.is (g.T.Tables.names l.tables)) (g.T.Tables.now l.tables) (g.T.Tables.count l.tables) (g.T.Tables.others l.tables).kept c;
  fits : length (g.T.Tables.others l.tables).kept ≤ length (g.T.Tables.others l.fn.tables).kept;
  least : min (length (g.T.Tables.others l.fn.tables).kept) l.most ≤ length (g.T.Tables.others l.tables).kept;
  waits : (o : Chain) (i : ℕ) → WaitsWithin (g.T.Tables.is (g.T.Tables.names l.fn.tables)) (g.T.Tables.others l.fn.tables) o i → WaitsWithin (g.T.Tables.is (g.T.Tables.names l.tables)) (g.T.Tables.others l.tables) o i;
  ahead : (g.T.Tables.others l.tables).ahead ≡ (g.T.Tables.others l.fn.tables).ahead;
}

abbrev pub decreases-loop-tables : goal.decreases-loop-tables
decreases-loop-tables g l = length (g.T.Tables.others l.tables).kept
