use Rattle.dubp_people_apply.proofs.Entries.{taken_out}
use Rattle.dubp_people_apply.proofs.queue.take_out.Goals as goal

pub returns-clause-entries : goal.returns-clause-entries
returns-clause-entries g c waiting has = taken_out c.args.time c.args.due waiting c.in_ok-cancel.ensures.at has
