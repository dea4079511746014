use Rattle.std.proofs.Common.{◌↔◌, IsTrue}
use Rattle.std.specs.List.{AllByRecursion}
use Rattle.dubp_chain.specs.Made.{made}
use Rattle.dubp_chain.specs.People.{membership_lines}
use Rattle.dubp_validity.specs.PeopleRules.{IsInWindow}
use Rattle.dubp_people_rules.specs.Lines.{IsMembershipInTime}
use Rattle.dubp_people_rules.proofs.Sections.{of_sections}
use Rattle.dubp_people_rules.proofs.Told.{at_next}
use Rattle.dubp_people_rules.proofs.memberships.memberships_are_in_time.Goals as goal

pub returns : goal.returns
returns c = λ ch at asked.
    let b = c.args.block.now in
    at_next ch b c.args.next.now asked (λ t p. IsTrue c.sections_are_in_time.result ↔ AllByRecursion (λ line. IsInWindow t p.ms_window (made ch b line.stamp)) (membership_lines b))
    (of_sections (IsMembershipInTime ch b c.args.next.now) b c.sections_are_in_time.result (c.sections_are_in_time.ensures ch at asked.sound))
