use Rattle.std.proofs.Common.{◌^◌, ◌<◌, ◌≤◌, length, ap, sym, subst, ◌∙◌}
use Rattle.dubp_block.specs.Text.{size_of}
use Rattle.dubp_gen.specs.Generated.{first_source}
use Rattle.dubp_gen.proofs.Drafted.{drafted, drafted_given}
use Rattle.dubp_gen.proofs.Sizes.{few_joiners, small_draft}
use Rattle.dubp_gen.proofs.next.draft_next.Goals as goal

pub first_source-source-requires-clause-chain : goal.first_source-source-requires-clause-chain
first_source-source-requires-clause-chain g c = (c.args.ledger.now.chain, (c.tables.ensures, c.laws.ensures.sound, c.laws.ensures.blocks))

pub returns-in_ok-drafted-in-Some-clause-block : goal.returns-in_ok-drafted-in-Some-clause-block
returns-in_ok-drafted-in-Some-clause-block g c = λ start number.
    let chain = c.args.ledger.now.chain in
    let s = c.first_source-source in
    let from = s.ensures.source chain c.tables.ensures c.laws.ensures.sound ∙ ap (first_source chain) c.payer.ensures.number in
    c.in_ok-drafted-in-Some.ensures.block ∙ drafted start chain c.len.result c.args.x c.in-Some.stamp s.result c.in-Some.ensures c.len.ensures number from

pub returns-in_ok-drafted-in-Some-clause-given : goal.returns-in_ok-drafted-in-Some-clause-given
returns-in_ok-drafted-in-Some-clause-given g c = λ start number.
    let chain = c.args.ledger.now.chain in
    let s = c.first_source-source in
    let from = s.ensures.source chain c.tables.ensures c.laws.ensures.sound ∙ ap (first_source chain) c.payer.ensures.number in
    c.in_ok-drafted-in-Some.ensures.verdicts ∙ drafted_given start chain c.len.result c.args.x c.in-Some.stamp s.result c.in-Some.ensures c.len.ensures number from

pub returns-in_ok-drafted-in-Some-clause-size : goal.returns-in_ok-drafted-in-Some-clause-size
returns-in_ok-drafted-in-Some-clause-size g c =
    subst (λ b. size_of b < 2 ^ 53) (sym c.in_ok-drafted-in-Some.ensures.block) (small_draft c.len.result c.args.x c.in-Some.stamp c.first_source-source.result)

pub returns-in_ok-drafted-in-Some-clause-joiners : goal.returns-in_ok-drafted-in-Some-clause-joiners
returns-in_ok-drafted-in-Some-clause-joiners g c =
    subst (λ b. length b.joiners ≤ 65536) (sym c.in_ok-drafted-in-Some.ensures.block) (few_joiners c.len.result c.args.x c.in-Some.stamp c.first_source-source.result)
