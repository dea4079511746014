use Rattle.std.proofs.Common.{◌≡◌, ◌++◌, map, ap}
use Rattle.dubp_validity.specs.Records.{membership_time}
use Rattle.dubp_validity.specs.declared.record.Record.TheVariants.{Active}
use Rattle.dubp_people_apply.proofs.Appended.{one_more_record}
use Rattle.dubp_people_apply.proofs.Begins.{begins_on}
use Rattle.dubp_people_apply.proofs.MemberLines.{all_lines}
use Rattle.dubp_people_apply.proofs.records.put_actives.Goals as goal

pub loop-line-preserved : goal.loop-line-preserved
loop-line-preserved c = record {
  put = λ chain at sound.
      one_more_record (λ line. Active line.key (membership_time chain c.args.block.now line)) c.args.lines.now c.loop-line.line-index c.line-item.result c.args.out.now.items c.loop-line.out.items _ _ c.loop-line-test.true c.line-item.is
      (ap (Active c.line-item.result.key) (c.time_of_membership-made.ensures chain at sound)) (c.loop-line.invariant.put chain at sound) c.in_ok-put.ensures.appended;
  begins = begins_on c.args.out.now.items c.loop-line.out.items c.put.new.out.items c.loop-line.invariant.begins c.put.ensures.begins;
}

pub returns-clause-appended : goal.returns-clause-appended
returns-clause-appended c = λ chain at sound.
    all_lines (λ lines. c.loop-line.out.items ≡ c.args.out.now.items ++ map (λ line. Active line.key (membership_time chain c.args.block.now line)) lines) c.args.lines.now c.loop-line.line-index c.loop-line.auto.line-index-end c.loop-line-test.false (c.loop-line.invariant.put chain at sound)
