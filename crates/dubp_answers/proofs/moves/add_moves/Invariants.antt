use Rattle.std.proofs.Common.{◌≡◌, ◌++◌, [], take}
use Rattle.dubp_answers.specs.MoveLines.{move_lines}
use Rattle.dubp_answers.proofs.moves.add_moves.Given as goal

abbrev pub invariant-loop-item : goal.invariant-loop-item
invariant-loop-item l = record {
  added : l.text.items ≡ l.fn.text.items ++ move_lines (take l.item-index l.moves);
  empty : l.line.items ≡ [];
}
