use Rattle.dubp_people_rules.specs.Lines.{IsMembershipNewer}
use Rattle.dubp_people_rules.proofs.Sections.{of_sections}
use Rattle.dubp_people_rules.proofs.memberships.memberships_are_newer.Goals as goal

pub returns : goal.returns
returns c = λ ch at. of_sections (IsMembershipNewer ch) c.args.block.now c.sections_are_newer.result (c.sections_are_newer.ensures ch at)
