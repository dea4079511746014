use Rattle.std.proofs.Common.{ap, subst, ◌∙◌}
use Rattle.dubp_rules.specs.First.{IsFirst}
use Rattle.dubp_head.specs.NextHead.{HeaderHolds, stated_rules}
use Rattle.dubp_head.proofs.NextHeads.{next_head-hash}
use Rattle.dubp_head.proofs.Stated.{stated_breaks, difficulty_breaks, difficulty_holds}
use Rattle.dubp_head.proofs.rules.head_rules_over.Goals as goal

pub stated_rules_over-requires-clause-heads : goal.stated_rules_over-requires-clause-heads
stated_rules_over-requires-clause-heads c = (c.args.params.now, (c.requires.valid, c.requires.heads))

pub meets_difficulty-meets-requires-clause-hash : goal.meets_difficulty-meets-requires-clause-hash
meets_difficulty-meets-requires-clause-hash c =
    ap (λ h. h.hash) c.requires.head ∙ next_head-hash c.args.params.now c.args.head.now.members c.args.heads.now.list c.args.block.now

pub returns-in-Some : goal.returns-in-Some
returns-in-Some c =
    let p = c.args.params.now in
    let hold = HeaderHolds p c.args.heads.now.list c.args.head.now c.args.block.now in
    stated_breaks hold c.in-Some.rule (subst (IsFirst hold stated_rules) c.in-Some.is (c.stated_rules_over.ensures p))

pub returns-then-meets : goal.returns-then-meets
returns-then-meets c =
    let p = c.args.params.now in
    let hold = HeaderHolds p c.args.heads.now.list c.args.head.now c.args.block.now in
    difficulty_holds hold (subst (IsFirst hold stated_rules) c.in-None.is (c.stated_rules_over.ensures p)) (c.meets_difficulty-meets.ensures.0 (let is = c.if-meets.true in cc))

pub returns-else-meets : goal.returns-else-meets
returns-else-meets c =
    let p = c.args.params.now in
    let hold = HeaderHolds p c.args.heads.now.list c.args.head.now c.args.block.now in
    difficulty_breaks hold (subst (IsFirst hold stated_rules) c.in-None.is (c.stated_rules_over.ensures p)) (λ holds. let is = c.meets_difficulty-meets.ensures.1 holds in let not = c.if-meets.false in cc)
