use Rattle.std.proofs.Common.{◌≡◌, ◌++◌, map, take}
use Rattle.std.specs.List.{All}
use Rattle.dubp_block.specs.Sections.{IsCertification}
use Rattle.dubp_drafts.specs.Drafting.{certification_line, certification_given}
use Rattle.dubp_drafts.proofs.lines.certification_lines.Given as goal

abbrev pub invariant-loop-pair : goal.invariant-loop-pair
invariant-loop-pair l = record {
  lines : l.lines.items ≡ map (certification_line l.number l.stamp) (take l.pair-index l.pairs);
  verdicts : l.verdicts.items ≡ l.fn.verdicts.items ++ map (certification_given l.stamp) (take l.pair-index l.pairs);
  valid : All IsCertification l.lines.items;
}
