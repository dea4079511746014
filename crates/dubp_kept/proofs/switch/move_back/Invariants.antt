use Rattle.std.proofs.Common.{◌≡◌, ◌+◌, ◌≤◌, ◌++◌, length, reverse, vec_len, vec_capacity}
use Rattle.dubp_head.specs.HeadsStates.{KeepsRoom}
use Rattle.dubp_kept.specs.KeptChain.{steps_of_last, StandsWithin, WaitsWithin}
use Rattle.dubp_kept.specs.Moves.{HasMoved}
use Rattle.dubp_kept.proofs.switch.move_back.Given as goal

abbrev pub invariant-loop-block : goal.invariant-loop-block
invariant-loop-block g l = record {
  moved : HasMoved (StandsWithin (g.T.Tables.is (g.T.Tables.names l.tables)) (g.T.Tables.now l.tables) (g.T.Tables.count l.tables) (g.T.Tables.others l.tables).kept) (WaitsWithin (g.T.Tables.is (g.T.Tables.names l.tables)) (g.T.Tables.others l.tables)) (length (g.T.Tables.others l.tables).ahead) l.heads l.behind.items l.blocks.items l.held.items (l.fn.held.items ++ reverse l.fn.blocks.items) (length l.held.items);
  depth : length (g.T.Tables.others l.tables).kept + length l.held.items ≡ length (g.T.Tables.others l.fn.tables).kept + length l.fn.held.items;
  room : vec_len l.blocks + vec_len l.held ≤ vec_capacity l.blocks;
  capacity : vec_capacity l.blocks ≡ vec_capacity l.fn.blocks;
  steps : l.steps + steps_of_last (length l.held.items) (l.fn.held.items ++ reverse l.fn.blocks.items) ≤ l.fn.steps + steps_of_last (length l.fn.held.items) (l.fn.held.items ++ reverse l.fn.blocks.items);
  keeps : KeepsRoom l.fn.heads l.heads;
}

abbrev pub decreases-loop-block : goal.decreases-loop-block
decreases-loop-block g l = length l.held.items
