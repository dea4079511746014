use Rattle.std.proofs.lemmas.Result.{on_ok_weaker}
use Rattle.dubp_people_apply.proofs.MemberLines.{left_none, left}
use Rattle.dubp_people_apply.proofs.memberships.leave.Goals as goal

pub returns-in-None-clause-stands : goal.returns-in-None-clause-stands
returns-in-None-clause-stands g c =
    λ chain queue rows waiting stands. left_none chain c.args.block.now c.args.line.now rows waiting c.row.result c.in-None.is c.row.ensures stands

pub returns-in-Some-clause-stands : goal.returns-in-Some-clause-stands
returns-in-Some-clause-stands g c =
    on_ok_weaker c.put_row.result
    (λ put chain queue rows waiting stands. left chain c.args.block.now c.args.line.now rows waiting c.row.result c.in-Some.before c.in-Some.is c.row.ensures put stands) c.put_row.ensures.at
