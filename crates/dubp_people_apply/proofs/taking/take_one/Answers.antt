use Rattle.std.proofs.lemmas.Result.{on_ok_weaker}
use Rattle.dubp_people_apply.proofs.Taken.{taken_queue}
use Rattle.dubp_people_apply.proofs.taking.take_one.Goals as goal

pub returns-clause-stand : goal.returns-clause-stand
returns-clause-stand g c =
    on_ok_weaker c.change.result (λ changed s stand.
    changed c.take_out.new.queue s c.args.time (taken_queue c.args.time c.args.due.now s (c.in_ok-take_out.ensures.entries s.queue stand.queue)) stand.memberships stand.certifications stand.sets) c.change.ensures.stand
