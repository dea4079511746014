use Rattle.std.proofs.lemmas.Result.{on_ok_weaker}
use Rattle.dubp_people_apply.proofs.MemberLines.{revoked_none, revoked}
use Rattle.dubp_people_apply.proofs.memberships.revoke.Goals as goal

pub returns-in-None-clause-stands : goal.returns-in-None-clause-stands
returns-in-None-clause-stands g c =
    λ chain b rows waiting written stands. revoked_none chain b c.args.line.now rows waiting c.row.result c.in-None.is c.row.ensures stands

pub returns-in_ok-take_out-in-Some-clause-stands : goal.returns-in_ok-take_out-in-Some-clause-stands
returns-in_ok-take_out-in-Some-clause-stands g c =
    on_ok_weaker c.put_row.result
    (λ put chain b rows waiting written stands.
    revoked chain b c.args.line.now rows waiting c.args.next.now c.twice_later-revocation.result c.row.result c.in-Some.before written c.in-Some.is c.twice_later-revocation.ensures c.row.ensures
    c.in_ok-take_out-in-Some.ensures.entries put stands) c.put_row.ensures.at
