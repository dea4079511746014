use Rattle.std.proofs.Common.{◌≡◌, ◌<◌, ◌≤◌, List, length, get_or, subst, ◌∙◌}
use Rattle.std.proofs.lemmas.Bool.Decides.{Decides-eqb}
use Rattle.std.proofs.lemmas.List.{take_all}
use Rattle.dubp_cond.specs.declared.unlock.UnlockLine.{UnlockLine}
use Rattle.dubp_money_rules.proofs.Opened.{AreOthers, unlocks_found, some_is_here}
use Rattle.dubp_money_rules.proofs.conditions.unlocks_at.Goals as goal

pub returns-then-line-place : goal.returns-then-line-place
returns-then-line-place c = λ one.
    let line = c.line-item.result in
    let lines = c.as_slice-line-items.ensures in
    c.as_slice.ensures
    ∙ unlocks_found c.args.place c.args.tx.now.unlocks c.loop-line.line-index line (subst (λ (l : List UnlockLine). c.loop-line.line-index < length l) lines c.loop-line-test.true)
    (subst (λ (l : List UnlockLine). line ≡ get_or l c.loop-line.line-index line) lines c.line-item.is) c.loop-line.invariant ((Decides-eqb line.input c.args.place).1 c.if-line-place.true) one

pub returns : goal.returns
returns c = λ one.
    let lines = c.args.tx.now.unlocks in
    let end : length lines ≤ c.loop-line.line-index = subst (λ (l : List UnlockLine). length l ≤ c.loop-line.line-index) c.as_slice-line-items.ensures c.loop-line-test.false in
    absurd (some_is_here c.args.place lines (subst (AreOthers c.args.place) (take_all c.loop-line.line-index lines end) c.loop-line.invariant) one)
