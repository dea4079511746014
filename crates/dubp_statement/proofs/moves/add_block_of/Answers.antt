use Rattle.std.proofs.Common.{subst, sym, arith}
use Rattle.std.proofs.lemmas.Result.{on_ok_weaker}
use Rattle.dubp_chain.specs.Chains.{Chain}
use Rattle.dubp_statement.specs.OfReplay.{account_of}
use Rattle.dubp_statement.specs.Tallies.{IsTallyOf}
use Rattle.dubp_statement.proofs.Fronts.{first_below, first_with}
use Rattle.dubp_statement.proofs.moves.add_block_of.Goals as goal

pub returns-in_default : goal.returns-in_default
returns-in_default g c = absurd (omega (arith, c.requires, c.in_default.ensures))

pub add_block-requires : goal.add_block-requires
add_block-requires g c = c.in-Some.ensures.text

pub returns : goal.returns
returns g c =
    let chain = c.args.ledger.now.chain in
    let number = c.args.number in
    let cond = c.args.cond.now in
    let written = c.in-Some.written in
    let b = written.block.now in
    let h = written.head.now in
    let l = written.left.now in
    let w = c.in-Some.ensures in
    on_ok_weaker c.add_block.result
    (λ added is.
    let before = subst (λ (x : Chain). IsTallyOf (account_of cond x) c.args.tally.now) (first_below chain number b h l w) is in
    subst (λ (x : Chain). IsTallyOf (account_of cond x) c.add_block.new.tally) (sym (first_with chain number b h l w))
    (added w.below (account_of cond w.below) w.head w.left before))
    c.add_block.ensures.account
