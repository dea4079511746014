use Rattle.std.proofs.Common.{◌≡◌, ◌++◌, [], take}
use Rattle.dubp_answers.specs.SourceLines.{view_lines}
use Rattle.dubp_answers.proofs.source_lines.add_views.Given as goal

abbrev pub invariant-loop-view : goal.invariant-loop-view
invariant-loop-view l = record {
  added : l.text.items ≡ l.fn.text.items ++ view_lines (take l.view-index l.views);
  empty : l.line.items ≡ [];
}
