use Rattle.dubp_people_rules.proofs.Told.{signed-told}
use Rattle.dubp_people_rules.proofs.revocations.revocation_is_signed.Goals as goal

pub returns : goal.returns
returns c = λ ch at. signed-told c.args.verdicts.now ch c.args.block.now c.args.line.now c.identity.result c.is_signed_by.result (c.identity.ensures ch at) c.is_signed_by.ensures
