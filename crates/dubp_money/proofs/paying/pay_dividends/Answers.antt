use Rattle.std.proofs.Common.{◌≡◌, ℕ, ◌+◌, ◌++◌, true, ◌∷◌, [], ap, sym, subst, arith, refl, ◌∙◌}
use Rattle.std.specs.List.{list_any}
use Rattle.dubp_atoms.specs.Same.{same_text}
use Rattle.dubp_cond.specs.Conditions.{cond_text}
use Rattle.dubp_cond.specs.Tree.{CondTree}
use Rattle.dubp_cond.specs.declared.source.SourceId.TheVariants.{D}
use Rattle.dubp_chain.specs.Money.{dividend_source}
use Rattle.dubp_sindex.specs.Accounts.{accounts}
use Rattle.dubp_sindex.specs.Rows.{Entry, IsNewRow}
use Rattle.dubp_money_steps.specs.Left.{account_in, entry_of}
use Rattle.dubp_money.specs.Index.{HasRows}
use Rattle.dubp_money.specs.Making.{dividends_to}
use Rattle.dubp_money.proofs.Growing.{grows_none, grows_on}
use Rattle.dubp_money.proofs.Made.{IsNext, place_next, made_next, has_next, nothing_made, dividend_next}
use Rattle.dubp_money.proofs.paying.pay_dividends.Goals as goal

pub loop-key-init : goal.loop-key-init
loop-key-init g c = record {
  at = λ rows are can has. subst (HasRows c.args.index.now) (sym (nothing_made (accounts c.args.index.now) rows c.args.order (dividends_to c.args.payment c.args.members.now))) has;
  has = tt;
  texts = grows_none (accounts c.args.index.now);
  place = omega arith;
  steps = omega arith;
  stays = λ n s is. is;
  others = refl;
  count = omega arith;
}

pub loop-key-preserved : goal.loop-key-preserved
loop-key-preserved g c =
    let p = c.args.payment in
    let n = c.args.order in
    let i = c.loop-key.key-index in
    let k = c.key-item.result in
    let s = dividend_source p.time p.number p.amount p.base k in
    let made = dividends_to p c.args.members.now in
    let texts = accounts c.loop-key.index in
    let texts' = accounts c.make_signed.new.index in
    let next : IsNext made i s = dividend_next p c.args.members.now i k (omega arith) c.key-item.is in
    let place = c.loop-key.invariant.place in
    record {
      at = λ rows are can has.
          made_next (HasRows c.loop-key.index) (HasRows c.make_signed.new.index) texts texts' c.in_ok-make_signed.ensures.texts rows n made i s next are can
          c.loop-key.invariant.has (c.loop-key.invariant.at rows are can has)
          (λ xs rows_are there new.
          let order : c.place_behind.result ≡ n + i = c.place_behind.ensures (omega (arith, place, place_next rows n made i s next can)) ∙ ap (λ k. n + k) place in
          let E : ℕ → Entry = λ m. entry_of (account_in texts') (m, s) in
          let same : E c.place_behind.result ≡ E (n + i) = ap E order in
          subst (λ e. HasRows c.make_signed.new.index (xs ++ e ∷ [])) same
          (c.in_ok-make_signed.ensures.at xs rows_are there (subst (IsNewRow xs) (sym same) new)));
      has =
          has_next texts texts' c.in_ok-make_signed.ensures.texts made i s next c.loop-key.invariant.has c.in_ok-make_signed.ensures.has;
      texts = grows_on (accounts c.args.index.now) texts texts' c.loop-key.invariant.texts c.in_ok-make_signed.ensures.texts;
      place = omega (arith, place);
      steps = omega (arith, c.in_ok-make_signed.ensures.steps, c.loop-key.invariant.steps);
      stays = λ n s is. c.in_ok-make_signed.ensures.stays n s (c.loop-key.invariant.stays n s is);
      others = c.in_ok-make_signed.ensures.others ∙ c.loop-key.invariant.others;
      count = omega (arith, c.in_ok-make_signed.ensures.count, c.loop-key.invariant.count);
    }

pub returns-in_err-make_signed-clause-stays : goal.returns-in_err-make_signed-clause-stays
returns-in_err-make_signed-clause-stays g c = λ n s is. c.in_err-make_signed.ensures.stays n s (c.loop-key.invariant.stays n s is)
