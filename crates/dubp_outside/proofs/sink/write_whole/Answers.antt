use Rattle.std.proofs.Common.{arith}
use Rattle.std.proofs.lemmas.Grind.{common_steps}
use Rattle.dubp_outside.proofs.Pieces.{written_more}
use Rattle.dubp_outside.proofs.sink.write_whole.Goals as goal

pub loop-rest-preserved : goal.loop-rest-preserved
loop-rest-preserved g c = record {
  same = omega (arith, c.in_ok-count.ensures.cause.same);
  written = written_more _ _ _ _ _ _ c.in_ok-count.count c.loop-rest.invariant.written c.in_ok-count.ensures.bytes (grind (arith, common_steps));
}
