use Rattle.std.proofs.lemmas.Result.{IfOk-weaker}
use Rattle.dubp_rules.proofs.FirstLaws.{IsFirst_from_FirstOf}
use Rattle.dubp_validity.specs.Rules.{Holds}
use Rattle.dubp_people_after.specs.PeopleRules.{people_rules}
use Rattle.dubp_people_checks.proofs.people.first_broken_of_people.Goals as goal

pub first_broken-requires : goal.first_broken-requires
first_broken-requires c =
    let asks = c.requires in
    (asks.0, record { at = asks.1.0; asked = asks.1.1; shown = c.in_ok-after.ensures asks.0 asks.1.0 asks.1.1 })

pub returns : goal.returns
returns c =
    IfOk-weaker c.first_broken.result _ _ (λ found first chain at asked.
    IsFirst_from_FirstOf (Holds c.args.verdicts.now chain c.args.block.now) people_rules found
    (first chain record { at = at; asked = asked; shown = c.in_ok-after.ensures chain at asked })) c.first_broken.ensures
