use Rattle.std.proofs.Common.{Some, refl, reverse, subst}
use Rattle.dubp_rules.specs.First.{IsFirst}
use Rattle.dubp_validity.specs.Rules.{Holds}
use Rattle.dubp_kept.specs.Parts.{place_rules}
use Rattle.dubp_kept.specs.Asking.{Asks}
use Rattle.dubp_kept.proofs.Orders.{place_breaks}
use Rattle.dubp_kept.proofs.Asking.{others_asked}
use Rattle.dubp_kept.proofs.judging.judge_opened.Goals as goal

pub returns-in-Some : goal.returns-in-Some
returns-in-Some g c =
    let v = c.args.verdicts.now in
    let chain = reverse c.args.blocks.now in
    let b = c.args.block.now in
    let first = subst (IsFirst (Holds v chain b) place_rules) c.in-Some.is (c.first_of_place.ensures v) in
    place_breaks (Asks c.args.asked v chain b) c.in-Some.rule c.requires.opening (others_asked v chain b c.args.asked place_rules (Some c.in-Some.rule) refl first)
