use Rattle.std.proofs.Common.{take, ap, sym, ◌∙◌, subst, refl, arith}
use Rattle.std.proofs.lemmas.List.{take_all}
use Rattle.dubp_money.specs.Index.{HasRows}
use Rattle.dubp_money.specs.Writing.{without_inputs}
use Rattle.dubp_money.proofs.Rows.{rows-filter, no_inputs, input_next}
use Rattle.dubp_money.proofs.spending.spend_inputs.Goals as goal

pub loop-input-init : goal.loop-input-init
loop-input-init g c = record {
  at = λ rows are has. subst (HasRows c.args.index.now) (sym (no_inputs rows)) has;
  steps = omega arith;
  accounts = refl;
  stays = λ n s is. is;
  others = refl;
  count = omega arith;
}

pub loop-input-preserved : goal.loop-input-preserved
loop-input-preserved g c = record {
  at = λ rows are has.
      subst (HasRows c.spend_source.new.index) (input_next c.as_slice-input-items.result.now c.loop-input.input-index c.input-item.result rows (omega arith) c.input-item.is)
      (c.in_ok-spend_source.ensures.at (without_inputs (take c.loop-input.input-index c.as_slice-input-items.result.now) rows) (rows-filter _ rows are) (c.loop-input.invariant.at rows are has));
  steps = omega (arith, c.in_ok-spend_source.ensures.steps, c.loop-input.invariant.steps);
  accounts = c.in_ok-spend_source.ensures.accounts ∙ c.loop-input.invariant.accounts;
  stays = λ n s is. c.in_ok-spend_source.ensures.stays n s (c.loop-input.invariant.stays n s is);
  others = c.in_ok-spend_source.ensures.others ∙ c.loop-input.invariant.others;
  count = omega (arith, c.in_ok-spend_source.ensures.count, c.loop-input.invariant.count);
}

pub returns-clause-at : goal.returns-clause-at
returns-clause-at g c = λ rows are has.
    subst (HasRows c.loop-input.index)
    (ap (λ l. without_inputs l rows) (take_all c.loop-input.input-index c.as_slice-input-items.result.now (omega arith) ∙ c.as_slice-input-items.ensures))
    (c.loop-input.invariant.at rows are has)

pub returns-in_err-spend_source-clause-stays : goal.returns-in_err-spend_source-clause-stays
returns-in_err-spend_source-clause-stays g c = λ n s is. c.in_err-spend_source.ensures.stays n s (c.loop-input.invariant.stays n s is)
