use Rattle.std.proofs.Common.{reverse, subst}
use Rattle.dubp_rules.specs.First.{FirstOf}
use Rattle.dubp_validity.specs.Rules.{Holds}
use Rattle.dubp_kept.specs.Parts.{link_rules}
use Rattle.dubp_kept.proofs.Orders.{link_breaks, issuer_breaks, issuer_holds}
use Rattle.dubp_kept.proofs.judging.first_of_place.Goals as goal

pub returns-in-Some : goal.returns-in-Some
returns-in-Some g c = λ v.
    let hold = Holds v (reverse c.args.blocks.now) c.args.block.now in
    link_breaks hold c.in-Some.rule (subst (FirstOf hold link_rules) c.in-Some.is (c.first_of_links.ensures v))

pub returns-in-None-2 : goal.returns-in-None-2
returns-in-None-2 g c = λ v.
    let hold = Holds v (reverse c.args.blocks.now) c.args.block.now in
    issuer_breaks hold (subst (FirstOf hold link_rules) c.in-None-2.is (c.first_of_links.ensures v)) (λ holds. let is = c.issuer_is_member.ensures.1 holds in let not = c.if-issuer_is_member.false in cc)

pub returns-in-None : goal.returns-in-None
returns-in-None g c = λ v.
    let hold = Holds v (reverse c.args.blocks.now) c.args.block.now in
    issuer_holds hold (subst (FirstOf hold link_rules) c.in-None.is (c.first_of_links.ensures v)) (c.issuer_is_member.ensures.0 (let is = c.if-issuer_is_member.true in cc))
