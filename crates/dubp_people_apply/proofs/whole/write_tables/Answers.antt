use Rattle.std.proofs.lemmas.Result.{on_ok_weaker}
use Rattle.dubp_steps.specs.Loops.{after_lines}
use Rattle.dubp_steps.proofs.Taking.{taking_starts}
use Rattle.dubp_people_apply.proofs.Counted.{all_within}
use Rattle.dubp_people_apply.proofs.Joined.{stands_before, certified_before, lines_stand}
use Rattle.dubp_people_apply.proofs.whole.write_tables.Goals as goal

pub returns-clause-taken : goal.returns-clause-taken
returns-clause-taken g c =
    on_ok_weaker c.take_due.result (λ taken chain facts written since left noted.
    let b = c.args.block.now in
    let first = c.in_ok-write_memberships.ensures.stands chain _ _ facts written (stands_before chain b written.sound left.memberships left.queue) in
    let second = c.in_ok-write_certifications.ensures.stands chain _ _ facts written (certified_before chain b written.sound left.certifications first.queue) in
    taken chain b (after_lines chain b) written.sound since written.is_next.time (taking_starts chain b) (lines_stand chain b c.args.ended.now first second noted)) c.take_due.ensures.taken

pub returns-clause-within : goal.returns-clause-within
returns-clause-within g c =
    on_ok_weaker c.take_due.result (λ counted chain facts written since left noted.
    let b = c.args.block.now in
    let first = c.in_ok-write_memberships.ensures.stands chain _ _ facts written (stands_before chain b written.sound left.memberships left.queue) in
    let second = c.in_ok-write_certifications.ensures.stands chain _ _ facts written (certified_before chain b written.sound left.certifications first.queue) in
    all_within b c.args.ended.now c.take_due.new.ended _ _ _ _ c.in_ok-write_memberships.ensures.steps c.in_ok-write_certifications.ensures.steps
    (counted chain b (after_lines chain b) written.sound since written.is_next.time (taking_starts chain b) (lines_stand chain b c.args.ended.now first second noted))) c.take_due.ensures.counted
