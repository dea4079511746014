use Rattle.std.proofs.lemmas.Result.{on_ok_weaker}
use Rattle.dubp_people_apply.proofs.MemberLines.{entered}
use Rattle.dubp_people_apply.proofs.memberships.enter.Goals as goal

pub returns-clause-stands : goal.returns-clause-stands
returns-clause-stands g c =
    on_ok_weaker c.put_row.result
    (λ put chain rows waiting facts written stands.
    entered chain c.args.block.now c.args.line.now rows waiting c.args.next.now c.time_of_membership-made.result c.twice_later.result c.row-before.result written (c.time_of_membership-made.ensures chain facts written.sound.1) c.twice_later.ensures c.row-before.ensures
    c.in_ok-replan.ensures.entries put stands) c.put_row.ensures.at
