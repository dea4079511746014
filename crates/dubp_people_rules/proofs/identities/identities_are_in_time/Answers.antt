use Rattle.std.proofs.Common.{◌↔◌, IsTrue}
use Rattle.std.specs.List.{AllByRecursion}
use Rattle.dubp_chain.specs.Made.{made}
use Rattle.dubp_validity.specs.PeopleRules.{IsInWindow}
use Rattle.dubp_people_rules.proofs.Told.{at_next}
use Rattle.dubp_people_rules.proofs.identities.identities_are_in_time.Goals as goal

pub returns : goal.returns
returns c = λ ch at asked.
    let b = c.args.block.now in
    at_next ch b c.args.next.now asked (λ t p. IsTrue c.are_in_time.result ↔ AllByRecursion (λ line. IsInWindow t p.idty_window (made ch b line.stamp)) b.identities)
    (rw c.as_slice.ensures at (c.are_in_time.ensures ch at asked.sound))
