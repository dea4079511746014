use Rattle.std.proofs.Common.{[], refl}
use Rattle.dubp_block.specs.Sections.{IsCertification}
use Rattle.dubp_drafts.proofs.OneMore.{one_line_more, all_with_one}
use Rattle.dubp_drafts.proofs.lines.certification_lines.Goals as goal

pub loop-pair-preserved : goal.loop-pair-preserved
loop-pair-preserved c =
    let i = c.loop-pair in
    record {
      lines = one_line_more _ c.args.pairs.now i.pair-index (0, 0) _ c.in_ok-line.line [] i.lines.items c.push.new.list.items c.loop-pair-test.true refl c.in_ok-line.ensures.line i.invariant.lines c.in_ok-push.ensures;
      verdicts = one_line_more _ c.args.pairs.now i.pair-index (0, 0) _ _ c.args.verdicts.now.items i.verdicts.items c.certification_line.new.verdicts.items c.loop-pair-test.true refl refl i.invariant.verdicts c.in_ok-line.ensures.verdict;
      valid = all_with_one IsCertification c.in_ok-line.line i.lines.items c.push.new.list.items i.invariant.valid c.in_ok-line.ensures.valid c.in_ok-push.ensures;
    }
