use Rattle.dubp_people_rules.proofs.Told.{newer-told}
use Rattle.dubp_people_rules.proofs.memberships.is_newer.Goals as goal

pub returns : goal.returns
returns c = λ ch at. newer-told ch c.args.line.now c.membership.result c.is_newer_than.result (c.membership.ensures ch at) c.is_newer_than.ensures
