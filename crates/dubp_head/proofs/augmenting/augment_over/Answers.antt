use Rattle.std.proofs.Common.{ap, sym, ◌∙◌}
use Rattle.dubp_chain.specs.Heads.{next_head}
use Rattle.dubp_head.proofs.Bounds.{newest_bounds}
use Rattle.dubp_head.proofs.NextHeads.{none_there, keeps_where_none, accepted, refused}
use Rattle.dubp_head.proofs.augmenting.augment_over.Goals as goal

pub returns-in_default-clause-head : goal.returns-in_default-clause-head
returns-in_default-clause-head c =
    let hs = c.args.heads.now.list in (
      c.first_head.ensures ∙ ap (λ l. next_head c.args.params.now c.args.members l c.args.block.now) (sym (none_there hs c.in_default.ensures)),
      keeps_where_none c.args.params.now c.args.members hs c.args.block.now c.requires.valid c.in_default.ensures,
    )

pub without_dividend-head-requires-clause-bounds : goal.without_dividend-head-requires-clause-bounds
without_dividend-head-requires-clause-bounds c =
    newest_bounds c.args.params.now c.args.heads.now.list c.in-Some.before.now c.requires.valid c.requires.heads c.in-Some.ensures

pub money_at-requires-clause-bounds : goal.money_at-requires-clause-bounds
money_at-requires-clause-bounds c =
    (newest_bounds c.args.params.now c.args.heads.now.list c.in-Some.before.now c.requires.valid c.requires.heads c.in-Some.ensures).money

pub returns-in-Ok-clause-head : goal.returns-in-Ok-clause-head
returns-in-Ok-clause-head c =
    accepted c.args.params.now c.args.members c.args.heads.now.list c.args.block.now c.in-Some.before.now c.without_dividend-head.result c.in-Ok.money c.with_money.result
    c.in-Some.ensures c.without_dividend-head.ensures c.in-Ok.ensures.value c.in-Ok.ensures.kept c.with_money.ensures

pub returns-in-Err-clause-passed : goal.returns-in-Err-clause-passed
returns-in-Err-clause-passed c =
    refused c.args.params.now c.args.members c.args.heads.now.list c.args.block.now c.in-Some.before.now c.without_dividend-head.result c.in-Err.rule
    c.in-Some.ensures c.without_dividend-head.ensures c.in-Err.ensures.passed
