use Rattle.std.proofs.Common.{arith}
use Rattle.std.proofs.lemmas.Result.{err_from_is_err_and}
use Rattle.dubp_parts_at_work.proofs.Copies.{copied_more, copied_until_write}
use Rattle.dubp_parts_at_work.proofs.streams.copy_all.Goals as goal

pub returns-in_err-write_whole-clause-part : goal.returns-in_err-write_whole-clause-part
returns-in_err-write_whole-clause-part g c =
    let p = err_from_is_err_and c.from_residual-in_err-write_whole.result c.from_residual-in_err-write_whole.ensures.1 in
    rw p.1 (copied_until_write _ _ _ _ _ _ _ c.loop.invariant.copied c.in_ok-count.ensures.bytes.0 c.in_err-write_whole.ensures.part)

pub loop-preserved : goal.loop-preserved
loop-preserved g c = record {
  copied = copied_more _ _ _ _ _ _ _ c.loop.invariant.copied c.in_ok-count.ensures.bytes.0 c.in_ok-write_whole.ensures.whole;
  source_calm = omega (arith, c.in_ok-count.ensures.cause.same);
  sink_calm = omega (arith, c.in_ok-write_whole.ensures.cause.same);
}
