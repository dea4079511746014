use Rattle.std.proofs.Common.{◌∷◌, ◌∙◌, sym, subst, fold, take, arith}
use Rattle.dubp_iindex.specs.contracts.index.IIndexTablesIdentityRows.TheImpl as tables
use Rattle.dubp_people_apply.specs.Writing.{with_member}
use Rattle.std.proofs.Common.{false}
use Rattle.dubp_people_apply.proofs.Changed.{excluded_apart}
use Rattle.dubp_people_apply.proofs.Onward.{fold_next, fold_whole}
use Rattle.dubp_people_apply.proofs.identities.exclude_all.Goals as goal

pub loop-key-preserved : goal.loop-key-preserved
loop-key-preserved g c =
    let before = c.loop-key.invariant in
    let now = c.in_ok-set_member.ensures in
    let i = c.loop-key.key-index in
    record {
      at = λ rows t new at.
          subst (λ r. (tables.ghosts).at c.set_member.new.index (r ∷ t)) (sym (fold_next (with_member false) c.args.keys.now rows i c.key-item.result c.loop-key-test.true c.key-item.is))
          (now.at (fold (with_member false) rows (take i c.args.keys.now)) t (excluded_apart (take i c.args.keys.now) rows new) (before.at rows t new at));
      others = now.others ∙ before.others;
      count = omega (arith, before.count, now.count);
      steps = omega (arith, before.steps, now.steps);
    }

pub returns-clause-at : goal.returns-clause-at
returns-clause-at g c = λ rows t new at.
    subst (λ r. (tables.ghosts).at c.loop-key.index (r ∷ t)) (fold_whole (with_member false) c.args.keys.now rows c.loop-key.key-index (omega (arith, c.loop-key-test.false))) (c.loop-key.invariant.at rows t new at)
