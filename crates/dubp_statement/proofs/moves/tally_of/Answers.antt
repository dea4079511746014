use Rattle.std.proofs.Common.{subst, sym, arith}
use Rattle.dubp_chain.specs.Chains.{Chain}
use Rattle.dubp_statement.specs.OfReplay.{account_of}
use Rattle.dubp_statement.specs.Tallies.{IsTallyOf}
use Rattle.dubp_statement.proofs.Fronts.{all_first, none_first}
use Rattle.dubp_statement.proofs.moves.tally_of.Goals as goal

pub loop-number-init : goal.loop-number-init
loop-number-init g c =
    subst (λ (x : Chain). IsTallyOf (account_of c.args.cond.now x) c.new-tally.result) (sym (none_first c.args.ledger.now.chain)) c.new-tally.ensures

pub returns : goal.returns
returns g c =
    let all = all_first c.args.ledger.now.chain c.loop-number.number (omega arith) in
    subst (λ (x : Chain). IsTallyOf (account_of c.args.cond.now x) c.loop-number.tally) all c.loop-number.invariant
