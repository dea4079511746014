use Rattle.std.proofs.Common.{◌↔◌, IsTrue}
use Rattle.std.specs.List.{AllByRecursion}
use Rattle.dubp_chain.specs.Made.{certification_made}
use Rattle.dubp_validity.specs.PeopleRules.{IsInWindow}
use Rattle.dubp_people_rules.proofs.Told.{at_next}
use Rattle.dubp_people_rules.proofs.certifications.certifications_are_in_time.Goals as goal

pub returns : goal.returns
returns c = λ ch at asked.
    let b = c.args.block.now in
    at_next ch b c.args.next.now asked (λ t p. IsTrue c.are_in_time.result ↔ AllByRecursion (λ line. IsInWindow t p.sig_window (certification_made ch b line)) b.certifications)
    (rw c.as_slice.ensures at (c.are_in_time.ensures ch at))
