use Rattle.dubp_people_rules.proofs.Told.{both, all-issuers-waited}
use Rattle.dubp_people_rules.proofs.certifications.issuers_waited.Goals as goal

pub returns : goal.returns
returns c = λ ch at asked. both (rw c.as_slice.ensures at (c.all_issuers_waited.ensures ch at asked.sound)) (all-issuers-waited ch c.args.block.now c.args.next.now asked)
