use Rattle.std.proofs.Common.{◌++◌, Some, subst}
use Rattle.dubp_rules.specs.First.{FirstOf}
use Rattle.dubp_rules.specs.declared.rule.Rule.{Rule}
use Rattle.dubp_rules.proofs.FirstLaws.{FirstOf_append_found, FirstOf_append_none}
use Rattle.dubp_validity.specs.Rules.{Holds}
use Rattle.dubp_people_checks.specs.RuleParts.{identity_rules, membership_rules, certification_rules, comer_rules}
use Rattle.dubp_people_checks.proofs.first.first_broken.Goals as goal

pub returns-in-Some-first_of_memberships : goal.returns-in-Some-first_of_memberships
returns-in-Some-first_of_memberships c = λ chain asked.
    let hold : Rule → Type 0 = Holds c.args.checks.now.verdicts.now chain c.args.checks.now.block.now in
    let rule = c.in-Some-first_of_memberships.rule in
    FirstOf_append_none hold identity_rules (membership_rules ++ (certification_rules ++ comer_rules)) (Some rule) (c.in_default.ensures chain asked)
    (FirstOf_append_found hold membership_rules (certification_rules ++ comer_rules) rule (c.in-Some-first_of_memberships.ensures chain asked))

pub returns-in-Some-2 : goal.returns-in-Some-2
returns-in-Some-2 c = λ chain asked.
    let hold : Rule → Type 0 = Holds c.args.checks.now.verdicts.now chain c.args.checks.now.block.now in
    let rule = c.in-Some-2.rule in
    FirstOf_append_none hold identity_rules (membership_rules ++ (certification_rules ++ comer_rules)) (Some rule) (c.in_default.ensures chain asked)
    (FirstOf_append_none hold membership_rules (certification_rules ++ comer_rules) (Some rule) (c.in_default-first_of_memberships.ensures chain asked)
    (FirstOf_append_found hold certification_rules comer_rules rule (subst (FirstOf hold certification_rules) c.in-Some-2.is (c.in_ok-rule.ensures chain asked))))
