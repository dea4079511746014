use Rattle.std.proofs.Common.{◌∷◌, ◌∙◌, sym, subst, fold, take, arith}
use Rattle.dubp_iindex.specs.contracts.index.IIndexTablesIdentityRows.TheImpl as tables
use Rattle.dubp_people_apply.specs.Writing.{created}
use Rattle.dubp_people_apply.proofs.Onward.{fold_next, fold_whole, new_at}
use Rattle.dubp_people_apply.proofs.identities.create_all.Goals as goal

pub loop-line-preserved : goal.loop-line-preserved
loop-line-preserved g c =
    let before = c.loop-line.invariant in
    let now = c.in_ok-create.ensures in
    let i = c.loop-line.line-index in
    record {
      at = λ rows t new at.
          subst (λ r. (tables.ghosts).at c.create.new.index (r ∷ t)) (sym (fold_next (created c.args.number) c.args.lines.now rows i c.line-item.result c.loop-line-test.true c.line-item.is))
          (now.at (fold (created c.args.number) rows (take i c.args.lines.now)) t (new_at c.args.number c.args.lines.now rows i c.line-item.result new c.loop-line-test.true c.line-item.is) (before.at rows t new at));
      others = now.others ∙ before.others;
      count = omega (arith, before.count, now.count);
      steps = omega (arith, before.steps, now.steps);
    }

pub returns-clause-at : goal.returns-clause-at
returns-clause-at g c = λ rows t new at.
    subst (λ r. (tables.ghosts).at c.loop-line.index (r ∷ t)) (fold_whole (created c.args.number) c.args.lines.now rows c.loop-line.line-index (omega (arith, c.loop-line-test.false))) (c.loop-line.invariant.at rows t new at)
