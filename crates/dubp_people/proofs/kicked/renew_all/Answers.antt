use Rattle.std.proofs.Common.{◌∙◌, refl, sym, ap, arith}
use Rattle.std.specs.Prelude.{is_some}
use Rattle.std.specs.Cmp.Lexicographic.{slice_cmp}
use Rattle.std.specs.Ordering.{nat_cmp}
use Rattle.dubp_undo.specs.MovingTable.{get}
use Rattle.dubp_people_apply.proofs.Onward.{fold_next, fold_whole}
use Rattle.dubp_people.specs.Exclusion.{kicked_with, noted_anew}
use Rattle.dubp_people.proofs.kicked.renew_all.Goals as goal

pub loop-entry-init : goal.loop-entry-init
loop-entry-init g c = record { now = λ chain at k. refl; others = refl; count = omega arith; steps = omega arith }

pub loop-entry-preserved : goal.loop-entry-preserved
loop-entry-preserved g c =
    let before = c.loop-entry.invariant in
    let now = c.in_ok-renew.ensures in
    let item = c.entry-item.result in
    record {
      now = λ chain at k.
          now.now chain at k
          ∙ ap (λ was. noted_anew (kicked_with c.args.next.now chain k) (g.T.Touching.touches k) was item) (before.now chain at k)
          ∙ sym (fold_next (noted_anew (kicked_with c.args.next.now chain k) (g.T.Touching.touches k)) c.args.entries.now (is_some (get (slice_cmp nat_cmp) c.args.kicked.now.table.now k)) c.loop-entry.entry-index item c.loop-entry-test.true c.entry-item.is);
      others = now.others ∙ before.others;
      count = omega (arith, now.count, before.count);
      steps = omega (arith, before.steps, now.steps);
    }

pub returns-clause-now : goal.returns-clause-now
returns-clause-now g c = λ chain at k.
    c.loop-entry.invariant.now chain at k
    ∙ fold_whole (noted_anew (kicked_with c.args.next.now chain k) (g.T.Touching.touches k)) c.args.entries.now (is_some (get (slice_cmp nat_cmp) c.args.kicked.now.table.now k)) c.loop-entry.entry-index (omega (arith, c.loop-entry-test.false))
