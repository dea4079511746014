use Rattle.std.proofs.Common.{◌+◌, Some, sym, subst, ◌∙◌, arith}
use Rattle.std.proofs.lemmas.Option.{none-some}
use Rattle.dubp_sindex.specs.States.{rows_of}
use Rattle.dubp_sindex.proofs.Walking.{IsWalked, walk_begins, walk_counted, walk_goes, walk_is_here, walk_source}
use Rattle.dubp_sindex.proofs.sindex.SIndex.sources.Goals as goal

pub walk-init : goal.walk-init
walk-init c = λ rows at_rows at_balances are known.
    subst (IsWalked rows c.args.account 0 (Some c.in-Some.balance.first)) (sym c.new-found.ensures.items)
    (walk_begins rows c.args.account c.in-Some.balance (sym (at_balances c.args.account) ∙ sym c.in-Some.ensures))

pub returns-in_default-get : goal.returns-in_default-get
returns-in_default-get c = λ s at are.
    let now = subst (λ o. IsWalked (rows_of s) c.args.account c.walk.counter o c.walk.found.items) c.in-Some-here.is (c.walk.invariant (rows_of s) at.0.1 at.0.2 are at.2) in
    absurd (walk_is_here c.args.self.now.origins (rows_of s) are c.args.account c.walk.counter c.in-Some-here.place c.walk.found.items now (sym (at.0.1 c.in-Some-here.place) ∙ sym c.in_default-get.ensures))

pub returns-in_default-entry_of : goal.returns-in_default-entry_of
returns-in_default-entry_of c = λ s at are.
    let now = subst (λ o. IsWalked (rows_of s) c.args.account c.walk.counter o c.walk.found.items) c.in-Some-here.is (c.walk.invariant (rows_of s) at.0.1 at.0.2 are at.2) in
    absurd (none-some _ (c.in_default-entry_of.ensures ∙ walk_source c.args.self.now.origins (rows_of s) are c.args.account c.walk.counter c.in-Some-here.place c.walk.found.items now at.2 c.in-Some-get.linked (sym (at.0.1 c.in-Some-here.place) ∙ sym c.in-Some-get.ensures)))

pub walk-preserved : goal.walk-preserved
walk-preserved c = λ rows at_rows at_balances are known.
    let now = subst (λ o. IsWalked rows c.args.account c.walk.counter o c.walk.found.items) c.in-Some-here.is (c.walk.invariant rows at_rows at_balances are known) in
    subst (λ o. IsWalked rows c.args.account (c.walk.counter + 1) o c.put_entry.new.found.items) (sym c.place-here.ensures)
    (walk_goes c.args.self.now.origins rows are c.args.account c.walk.counter c.in-Some-here.place c.walk.found.items now known c.in-Some-get.linked (sym (at_rows c.in-Some-here.place) ∙ sym c.in-Some-get.ensures)
    c.in-Some-entry_of.entry c.in-Some-entry_of.ensures c.put_entry.new.found.items c.in_ok-put_entry.ensures)

pub returns : goal.returns
returns c = λ s at are.
    walk_counted (rows_of s) c.args.account c.walk.counter c.walk.here c.walk.found.items c.in-Some.balance (sym (at.0.2 c.args.account) ∙ sym c.in-Some.ensures) (c.walk.invariant (rows_of s) at.0.1 at.0.2 are at.2) (omega (arith, c.walk-test.false))
