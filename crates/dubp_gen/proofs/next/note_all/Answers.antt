use Rattle.std.proofs.Common.{arith}
use Rattle.dubp_gen.proofs.Giving.{given_more, noted_more}
use Rattle.dubp_gen.proofs.next.note_all.Goals as goal

pub loop-verdict-preserved : goal.loop-verdict-preserved
loop-verdict-preserved c =
    let gs = c.args.given.now in
    let i = c.loop-verdict.verdict-index in
    let g = c.verdict-item.result in (
      given_more c.args.verdicts.now c.loop-verdict.verdicts c.note.new.verdicts gs i g (omega (arith, c.loop-verdict-test.true)) c.verdict-item.is c.loop-verdict.invariant.0 c.in_ok-note.ensures.given,
      noted_more c.args.noted.now.items c.loop-verdict.noted.items c.note.new.noted.items gs i g (omega (arith, c.loop-verdict-test.true)) c.verdict-item.is c.loop-verdict.invariant.1 c.in_ok-note.ensures.noted,
    )
