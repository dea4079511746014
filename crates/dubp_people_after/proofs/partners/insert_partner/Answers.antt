use Rattle.std.proofs.Common.{refl, subst}
use Rattle.std.specs.Option.{IsSome}
use Rattle.std.proofs.lemmas.Result.{on_ok_weaker}
use Rattle.dubp_people_after.proofs.Between.{one_partner_more}
use Rattle.dubp_people_after.proofs.partners.insert_partner.Goals as goal

pub returns-in-Some : goal.returns-in-Some
returns-in-Some c =
    let partners = c.push.new.keys in
    let put = (c.get_mut.follows.holds partners).3 (subst IsSome c.in-Some.ensures.value refl) in
    on_ok_weaker c.push.result (one_partner_more c.args.map.now (c.get_mut.follows.lender partners) c.args.key c.args.partner partners put.0 c.in-Some.partners.now c.in-Some.ensures.value) c.push.ensures
