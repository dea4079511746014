use Rattle.std.proofs.Common.{◌≡◌, ℕ, ◌+◌, ◌++◌, length, ◌∷◌, [], map, ap, sym, subst, arith, refl, ◌∙◌}
use Rattle.std.specs.List.{enumerate_from}
use Rattle.dubp_chain.specs.Money.{output_source}
use Rattle.dubp_sindex.specs.Accounts.{accounts}
use Rattle.dubp_sindex.specs.Rows.{Entry, IsNewRow}
use Rattle.dubp_money_steps.specs.Left.{account_in, entry_of, HasTexts}
use Rattle.dubp_money.specs.Index.{HasRows}
use Rattle.dubp_money.specs.Making.{outputs_at, with_made}
use Rattle.dubp_money.proofs.Growing.{grows_none, grows_on}
use Rattle.dubp_money.proofs.Made.{IsNext, place_next, made_next, has_next, nothing_made, output_next, outputs_all}
use Rattle.dubp_money.proofs.making.make_outputs.Goals as goal

pub loop-output-init : goal.loop-output-init
loop-output-init g c = record {
  at = λ rows are can has. subst (HasRows c.args.index.now) (sym (nothing_made (accounts c.args.index.now) rows c.args.order (outputs_at c.args.time c.args.hash.now c.args.tx.now))) has;
  has = tt;
  texts = grows_none (accounts c.args.index.now);
  place = omega arith;
  steps = omega arith;
  stays = λ n s is. is;
  others = refl;
  count = omega arith;
}

pub loop-output-preserved : goal.loop-output-preserved
loop-output-preserved g c =
    let time = c.args.time in
    let hash = c.args.hash.now in
    let n = c.args.order in
    let i = c.loop-output.output-index in
    let o = c.output-item.result in
    let made = outputs_at time hash c.args.tx.now in
    let texts = accounts c.loop-output.index in
    let texts' = accounts c.make_source.new.index in
    let next : IsNext made i (output_source time hash (i, o)) =
    subst (λ l. IsNext (map (output_source time hash) (enumerate_from 0 l)) i (output_source time hash (i, o))) c.as_slice-output-items.ensures
    (output_next time hash c.as_slice-output-items.result.now i o (omega arith) c.output-item.is) in
    let place = c.loop-output.invariant.place in
    record {
      at = λ rows are can has.
          made_next (HasRows c.loop-output.index) (HasRows c.make_source.new.index) texts texts' c.in_ok-make_source.ensures.texts rows n made i (output_source time hash (i, o)) next are can
          c.loop-output.invariant.has (c.loop-output.invariant.at rows are can has)
          (λ xs rows_are there new.
          let order : c.place_behind.result ≡ n + i = c.place_behind.ensures (omega (arith, place, place_next rows n made i (output_source time hash (i, o)) next can)) ∙ ap (λ k. n + k) place in
          let E : ℕ → ℕ → Entry = λ m k. entry_of (account_in texts') (m, output_source time hash (k, o)) in
          let same : E c.place_behind.result c.loop-output.place ≡ E (n + i) i = λ j. E (order j) (place j) in
          subst (λ e. HasRows c.make_source.new.index (xs ++ e ∷ [])) same (c.in_ok-make_source.ensures.at xs rows_are there (subst (IsNewRow xs) (sym same) new)));
      has = has_next texts texts' c.in_ok-make_source.ensures.texts made i (output_source time hash (i, o)) next c.loop-output.invariant.has c.in_ok-make_source.ensures.has;
      texts = grows_on (accounts c.args.index.now) texts texts' c.loop-output.invariant.texts c.in_ok-make_source.ensures.texts;
      place = omega (arith, place);
      steps = omega (arith, c.in_ok-make_source.ensures.steps, c.loop-output.invariant.steps);
      stays = λ n s is. c.in_ok-make_source.ensures.stays n s (c.loop-output.invariant.stays n s is);
      others = c.in_ok-make_source.ensures.others ∙ c.loop-output.invariant.others;
      count = omega (arith, c.in_ok-make_source.ensures.count, c.loop-output.invariant.count);
    }

pub returns-clause-at : goal.returns-clause-at
returns-clause-at g c = λ rows are can has.
    subst (λ l. HasRows c.loop-output.index (with_made (accounts c.loop-output.index) rows c.args.order l))
    (outputs_all c.args.time c.args.hash.now c.args.tx.now.outputs c.loop-output.output-index (omega (arith, ap length c.as_slice-output-items.ensures)))
    (c.loop-output.invariant.at rows are can has)

pub returns-clause-has : goal.returns-clause-has
returns-clause-has g c =
    subst (HasTexts (accounts c.loop-output.index)) (outputs_all c.args.time c.args.hash.now c.args.tx.now.outputs c.loop-output.output-index (omega (arith, ap length c.as_slice-output-items.ensures))) c.loop-output.invariant.has

pub returns-in_err-make_source-clause-stays : goal.returns-in_err-make_source-clause-stays
returns-in_err-make_source-clause-stays g c = λ n s is. c.in_err-make_source.ensures.stays n s (c.loop-output.invariant.stays n s is)
