use Rattle.dubp_rules.proofs.FirstLaws.{IsFirst_from_FirstOf}
use Rattle.dubp_head.specs.NextHead.{HeaderHolds, stated_rules}
use Rattle.dubp_head.proofs.Bounds.{are_small}
use Rattle.dubp_head.proofs.rules.stated_rules_over.Goals as goal

pub first_broken-requires-clause-small : goal.first_broken-requires-clause-small
first_broken-requires-clause-small c =
    let heads = c.requires.heads in
    are_small heads.0 c.args.heads.now.list heads.1.0 heads.1.1

pub returns : goal.returns
returns c = λ p. IsFirst_from_FirstOf (HeaderHolds p c.args.heads.now.list c.args.head.now c.args.block.now) stated_rules c.first_broken.result (c.first_broken.ensures p)
