use Rattle.dubp_people_rules.proofs.Told.{both, all-renewed}
use Rattle.dubp_people_rules.proofs.certifications.live_pairs_are_renewed.Goals as goal

pub returns : goal.returns
returns c = λ ch at asked. both (rw c.as_slice.ensures at (c.may_all_follow.ensures ch at)) (all-renewed ch c.args.block.now c.args.next.now asked)
