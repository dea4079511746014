use Rattle.dubp_chain.specs.People.{membership_lines}
use Rattle.dubp_people_rules.specs.Lines.{IsMembershipApart}
use Rattle.dubp_people_rules.proofs.Sections.{of_sections}
use Rattle.dubp_people_rules.proofs.Told.{both, all-apart}
use Rattle.dubp_people_rules.proofs.memberships.all_are_apart.Goals as goal

pub returns : goal.returns
returns c = λ ch at asked.
    let b = c.args.block.now in
    both (of_sections (IsMembershipApart ch c.args.next.now) b c.sections_are_apart.result (c.sections_are_apart.ensures ch at))
    (all-apart ch b c.args.next.now asked (membership_lines b))
