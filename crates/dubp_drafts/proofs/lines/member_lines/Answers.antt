use Rattle.std.proofs.Common.{[], refl}
use Rattle.dubp_block.specs.Sections.{IsMembership}
use Rattle.dubp_drafts.proofs.OneMore.{one_line_more, all_with_one}
use Rattle.dubp_drafts.proofs.lines.member_lines.Goals as goal

pub loop-person-preserved : goal.loop-person-preserved
loop-person-preserved c =
    let i = c.loop-person in
    record {
      lines = one_line_more _ c.args.people.now i.person-index 0 _ c.in_ok-line.line [] i.lines.items c.push.new.list.items c.loop-person-test.true refl c.in_ok-line.ensures.line i.invariant.lines c.in_ok-push.ensures;
      verdicts = one_line_more _ c.args.people.now i.person-index 0 _ _ c.args.verdicts.now.items i.verdicts.items c.member_line.new.verdicts.items c.loop-person-test.true refl refl i.invariant.verdicts c.in_ok-line.ensures.verdict;
      valid = all_with_one IsMembership c.in_ok-line.line i.lines.items c.push.new.list.items i.invariant.valid c.in_ok-line.ensures.valid c.in_ok-push.ensures;
    }
