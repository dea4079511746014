use Rattle.dubp_statement.specs.OfReplay.{account_of}
use Rattle.dubp_statement.specs.Tallies.{IsTallyOf}
use Rattle.dubp_statement.specs.Fronts.{first_blocks}
use Rattle.dubp_statement.proofs.moves.tally_of.Given as goal

abbrev pub invariant-loop-number : goal.invariant-loop-number
invariant-loop-number g l = IsTallyOf (account_of l.fn.cond (first_blocks l.number l.fn.ledger.chain)) l.tally
