use Rattle.std.proofs.Common.{subst, sym}
use Rattle.dubp_rules.specs.First.{IsFirst}
use Rattle.dubp_head.specs.NextHead.{HeaderHolds}
use Rattle.dubp_kept.specs.Asking.{asked_header}
use Rattle.dubp_kept.proofs.judging.first_of_header.Goals as goal

pub stated_rules_over-requires-clause-heads : goal.stated_rules_over-requires-clause-heads
stated_rules_over-requires-clause-heads c = (c.args.params.now, (c.requires.valid, c.requires.heads))

pub returns-in-Unsigned : goal.returns-in-Unsigned
returns-in-Unsigned c =
    let p = c.args.params.now in
    let hold = HeaderHolds p c.args.heads.now.list c.args.head.now c.args.block.now in
    subst (λ asked. IsFirst hold (asked_header asked) c.stated_rules_over.result) (sym c.in-Unsigned.is) (c.stated_rules_over.ensures p)
