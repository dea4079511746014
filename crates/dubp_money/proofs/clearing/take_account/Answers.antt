use Rattle.std.proofs.Common.{◌++◌, ◌∷◌, [], take, arith, ap, sym, ◌∙◌, append-nil, subst, length, length-append, refl}
use Rattle.std.proofs.lemmas.List.{take_all}
use Rattle.dubp_money.specs.Index.{HasRows}
use Rattle.dubp_money.proofs.Rows.{rows-filter}
use Rattle.dubp_money.proofs.Clears.{spent_from, spent_none, spent_next, gathered_next, spent_all}
use Rattle.dubp_money.proofs.clearing.take_account.Goals as goal

pub loop-entry-init : goal.loop-entry-init
loop-entry-init g c = record {
  left = λ rows are has. subst (HasRows c.args.index.now) (sym (spent_none rows)) has;
  taken = sym (append-nil c.args.taken.now.items);
  counted = omega arith;
  steps = omega arith;
  texts = refl;
  stays = λ n s is. is;
  others = refl;
  count = omega arith;
}

pub loop-entry-preserved : goal.loop-entry-preserved
loop-entry-preserved g c = record {
  left = λ rows are has.
      spent_next (HasRows c.spend_source.new.index) rows c.deref-entry-items.result.now c.loop-entry.entry-index c.entry-item.result (omega arith) c.entry-item.is
      (c.in_ok-spend_source.ensures.at (spent_from rows (take c.loop-entry.entry-index c.deref-entry-items.result.now)) (rows-filter _ rows are) (c.loop-entry.invariant.left rows are has));
  taken =
      gathered_next c.args.taken.now.items c.deref-entry-items.result.now c.loop-entry.taken.items c.put_entry.new.taken.items c.loop-entry.entry-index c.entry-item.result (omega arith) c.entry-item.is
      c.loop-entry.invariant.taken c.in_ok-put_entry.ensures.appended;
  counted = omega (arith, ap length c.in_ok-put_entry.ensures.appended, length-append c.loop-entry.taken.items (c.entry-item.result ∷ []), c.loop-entry.invariant.counted);
  steps = omega (arith, c.in_ok-spend_source.ensures.steps, c.loop-entry.invariant.steps);
  texts = c.in_ok-spend_source.ensures.accounts ∙ c.loop-entry.invariant.texts;
  stays = λ n s is. c.in_ok-spend_source.ensures.stays n s (c.loop-entry.invariant.stays n s is);
  others = c.in_ok-spend_source.ensures.others ∙ c.loop-entry.invariant.others;
  count = omega (arith, c.in_ok-spend_source.ensures.count, c.loop-entry.invariant.count);
}

pub returns-clause-left : goal.returns-clause-left
returns-clause-left g c = λ rows are has.
    spent_all (HasRows c.loop-entry.index) c.args.account rows c.deref-entry-items.result.now c.loop-entry.entry-index are (c.deref-entry-items.ensures.value ∙ c.in_ok-found.ensures (rows ∷ []) has are) (omega arith)
    (c.loop-entry.invariant.left rows are has)

pub returns-clause-taken : goal.returns-clause-taken
returns-clause-taken g c = λ rows are has.
    c.loop-entry.invariant.taken
    ∙ ap (λ l. c.args.taken.now.items ++ l) (take_all c.loop-entry.entry-index c.deref-entry-items.result.now (omega arith) ∙ (c.deref-entry-items.ensures.value ∙ c.in_ok-found.ensures (rows ∷ []) has are))

pub returns-in_err-spend_source-clause-stays : goal.returns-in_err-spend_source-clause-stays
returns-in_err-spend_source-clause-stays g c = λ n s is. c.in_err-spend_source.ensures.stays n s (c.loop-entry.invariant.stays n s is)

pub returns-in_err-put_entry-clause-stays : goal.returns-in_err-put_entry-clause-stays
returns-in_err-put_entry-clause-stays g c = λ n s is. c.in_ok-spend_source.ensures.stays n s (c.loop-entry.invariant.stays n s is)
