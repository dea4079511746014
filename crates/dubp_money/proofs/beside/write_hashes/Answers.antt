use Rattle.std.proofs.Common.{refl, ◌∙◌, arith}
use Rattle.std.specs.Cmp.Lexicographic.{slice_cmp}
use Rattle.std.specs.Ordering.{nat_cmp}
use Rattle.dubp_undo.specs.MovingTable.{get}
use Rattle.dubp_money.proofs.Noting.{noted_next, noted_all}
use Rattle.dubp_money.proofs.beside.write_hashes.Goals as goal

pub loop-hash-init : goal.loop-hash-init
loop-hash-init g c = record {
  now = λ k. refl;
  steps = omega arith;
  others = refl;
  count = omega arith;
}

pub loop-hash-preserved : goal.loop-hash-preserved
loop-hash-preserved g c =
    let before = c.loop-hash.invariant in
    let set = c.in_ok-set.ensures in
    record {
      now = λ k.
          noted_next c.args.hashes.now c.loop-hash.hash-index c.hash-item.result c.loop-hash-test.true c.hash-item.is k
          (get (slice_cmp nat_cmp) c.args.table.now.table.now k) (get (slice_cmp nat_cmp) c.loop-hash.table.table.now k) _ (before.now k) (set.now k);
      steps = omega (arith, before.steps, set.step);
      others = set.others ∙ before.others;
      count = omega (arith, set.count, before.count);
    }

pub returns-clause-at : goal.returns-clause-at
returns-clause-at g c = λ chain b are at k.
    noted_all c.args.hashes.now c.loop-hash.hash-index chain b (omega (arith, c.loop-hash-test.false)) are k
    (get (slice_cmp nat_cmp) c.args.table.now.table.now k) (get (slice_cmp nat_cmp) c.loop-hash.table.table.now k) (c.loop-hash.invariant.now k) (at k)
