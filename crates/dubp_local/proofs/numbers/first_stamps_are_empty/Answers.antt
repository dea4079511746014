use Rattle.dubp_validity.specs.LocalRules.{HaveEmptyStamps}
use Rattle.dubp_local.proofs.Every.{every_of_three, three_of_every}
use Rattle.dubp_local.proofs.numbers.first_stamps_are_empty.Goals as goal

pub returns-else-block-ne0 : goal.returns-else-block-ne0
returns-else-block-ne0 c =
    let b = c.args.block.now in
    let says = c.all_stamps_are_empty.ensures in (
      λ answer zero. ((says.0 answer).0, every_of_three HaveEmptyStamps b.joiners b.actives b.leavers ((says.0 answer).1, (says.0 answer).2, (says.0 answer).3)),
      λ holds.
          let each = three_of_every HaveEmptyStamps b.joiners b.actives b.leavers (holds c.if-block-ne0.false).1 in
          says.1 ((holds c.if-block-ne0.false).0, each.0, each.1, each.2),
    )
