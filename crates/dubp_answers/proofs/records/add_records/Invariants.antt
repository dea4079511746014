use Rattle.std.proofs.Common.{◌≡◌, ◌++◌, [], take}
use Rattle.dubp_answers.specs.RecordLines.{record_lines}
use Rattle.dubp_answers.proofs.records.add_records.Given as goal

abbrev pub invariant-loop-item : goal.invariant-loop-item
invariant-loop-item l = record {
  added : l.text.items ≡ l.fn.text.items ++ record_lines (take l.item-index l.records);
  empty : l.line.items ≡ [];
}
