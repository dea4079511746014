use Rattle.std.proofs.Common.{◌≡◌, ◌++◌, map, take}
use Rattle.std.specs.List.{All}
use Rattle.dubp_block.specs.Sections.{IsMembership}
use Rattle.dubp_drafts.specs.Drafting.{member_line, membership_given}
use Rattle.dubp_drafts.proofs.lines.member_lines.Given as goal

abbrev pub invariant-loop-person : goal.invariant-loop-person
invariant-loop-person l = record {
  lines : l.lines.items ≡ map (member_line l.stamp l.since) (take l.person-index l.people);
  verdicts : l.verdicts.items ≡ l.fn.verdicts.items ++ map (membership_given l.stamp l.since) (take l.person-index l.people);
  valid : All IsMembership l.lines.items;
}
