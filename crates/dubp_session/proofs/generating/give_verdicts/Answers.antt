use Rattle.std.proofs.Common.{arith}
use Rattle.dubp_entries.proofs.Serves.{on_err}
use Rattle.dubp_session.proofs.Givens.{given_none, verdicts_front, verdicts_more}
use Rattle.dubp_session.proofs.generating.give_verdicts.Goals as goal

pub loop-verdict-init : goal.loop-verdict-init
loop-verdict-init g c = given_none c.args.node.now

pub loop-verdict-preserved : goal.loop-verdict-preserved
loop-verdict-preserved g c =
    verdicts_more c.args.verdicts.now c.loop-verdict.verdict-index c.verdict-item.result c.args.node.now c.loop-verdict.node c.give_verdict.new.self (omega (arith, c.loop-verdict-test.true)) c.verdict-item.is c.loop-verdict.invariant c.in_ok-give_verdict.ensures.given

pub returns-in_err-give_verdict-clause-front : goal.returns-in_err-give_verdict-clause-front
returns-in_err-give_verdict-clause-front g c =
    on_err c.from_residual.result _ (verdicts_front c.args.verdicts.now c.loop-verdict.verdict-index c.args.node.now c.loop-verdict.node c.give_verdict.new.self c.loop-verdict.invariant c.in_err-give_verdict.ensures.refused)
