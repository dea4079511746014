use Rattle.std.proofs.Common.{filter, not, arith, sym, ◌∙◌, subst, refl}
use Rattle.dubp_sindex.specs.Rows.{Entry}
use Rattle.dubp_money.specs.Index.{HasRows}
use Rattle.dubp_money.specs.Writing.{IsCleared}
use Rattle.dubp_money.proofs.Rows.{rows-filter}
use Rattle.dubp_money.proofs.Clears.{cleared_none, cleared_next}
use Rattle.dubp_money.proofs.clearing.take_little.Goals as goal

pub accounts-init : goal.accounts-init
accounts-init g c = record {
  cleared = λ rows are has. subst (λ l. IsCleared (HasRows c.args.index.now) c.args.limit rows l) (sym c.new-taken.ensures.items) (cleared_none (HasRows c.args.index.now) c.args.limit rows has);
  steps = omega arith;
  texts = refl;
  stays = λ n s is. is;
  others = refl;
  count = omega arith;
}

pub accounts-preserved : goal.accounts-preserved
accounts-preserved g c = record {
  cleared = λ rows are has.
      let is = c.accounts.invariant.cleared rows are has in
      let left = filter (λ (e : Entry). not (is.gone e.1.account)) rows in
      cleared_next (HasRows c.accounts.index) (HasRows c.take_account.new.index) c.args.limit rows c.accounts.taken.items c.take_account.new.taken.items c.in-Some.account is
      (c.in-Some.ensures.found left is.left)
      (c.in_ok-take_account.ensures.left left (rows-filter _ rows are) is.left)
      (c.in_ok-take_account.ensures.taken left (rows-filter _ rows are) is.left);
  steps = omega (arith, c.in_ok-take_account.ensures.steps, c.accounts.invariant.steps);
  texts = c.in_ok-take_account.ensures.texts ∙ c.accounts.invariant.texts;
  stays = λ n s is. c.in_ok-take_account.ensures.stays n s (c.accounts.invariant.stays n s is);
  others = c.in_ok-take_account.ensures.others ∙ c.accounts.invariant.others;
  count = omega (arith, c.in_ok-take_account.ensures.count, c.accounts.invariant.count);
}

pub returns-in_default-clause-cleared : goal.returns-in_default-clause-cleared
returns-in_default-clause-cleared g c = λ rows are has.
    let is = c.accounts.invariant.cleared rows are has in
    record { cleared = is; enough = c.in_default.ensures.none (filter (λ (e : Entry). not (is.gone e.1.account)) rows) is.left }

pub returns-in_err-take_account-clause-stays : goal.returns-in_err-take_account-clause-stays
returns-in_err-take_account-clause-stays g c = λ n s is. c.in_err-take_account.ensures.stays n s (c.accounts.invariant.stays n s is)
