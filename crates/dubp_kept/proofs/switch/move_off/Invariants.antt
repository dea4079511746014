use Rattle.std.proofs.Common.{◌≡◌, ◌+◌, ◌≤◌, length, reverse, vec_len, vec_capacity}
use Rattle.dubp_head.specs.HeadsStates.{KeepsRoom}
use Rattle.dubp_kept.specs.KeptChain.{steps_of_last, StandsWithin, WaitsWithin}
use Rattle.dubp_kept.specs.Moves.{HasMoved}
use Rattle.dubp_kept.proofs.switch.move_off.Given as goal

abbrev pub invariant-loop-i : goal.invariant-loop-i
invariant-loop-i g l = record {
  moved : HasMoved (StandsWithin (g.T.Tables.is (g.T.Tables.names l.tables)) (g.T.Tables.now l.tables) (g.T.Tables.count l.tables) (g.T.Tables.others l.tables).kept) (WaitsWithin (g.T.Tables.is (g.T.Tables.names l.tables)) (g.T.Tables.others l.tables)) (length (g.T.Tables.others l.tables).ahead) l.heads l.behind.items l.blocks.items l.held.items (reverse l.fn.blocks.items) l.i;
  left : l.count ≤ vec_len l.blocks + l.i;
  heads_left : length l.heads.list ≡ vec_len l.blocks;
  depth : length (g.T.Tables.others l.tables).kept + l.i ≡ length (g.T.Tables.others l.fn.tables).kept;
  spare : l.count ≤ g.T.Tables.spare l.tables + l.i;
  held : vec_len l.held ≡ l.i;
  room : vec_capacity l.held ≡ vec_capacity l.fn.held;
  behind : vec_len l.behind ≡ l.i;
  heads_room : vec_capacity l.behind ≡ vec_capacity l.fn.behind;
  capacity : vec_capacity l.blocks ≡ vec_capacity l.fn.blocks;
  steps : l.steps ≤ l.fn.steps + steps_of_last l.i (reverse l.fn.blocks.items);
  keeps : KeepsRoom l.fn.heads l.heads;
}
