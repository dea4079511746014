use Rattle.std.proofs.Common.{◌≡◌, ◌++◌, map, take}
use Rattle.std.specs.List.{All}
use Rattle.dubp_block.specs.Sections.{IsIdentity}
use Rattle.dubp_drafts.specs.Drafting.{identity_line, identity_given}
use Rattle.dubp_drafts.proofs.lines.identity_lines.Given as goal

abbrev pub invariant-loop-person : goal.invariant-loop-person
invariant-loop-person l = record {
  lines : l.lines.items ≡ map (identity_line l.stamp) (take l.person-index l.people);
  verdicts : l.verdicts.items ≡ l.fn.verdicts.items ++ map (identity_given l.stamp) (take l.person-index l.people);
  valid : All IsIdentity l.lines.items;
}
