use Rattle.std.proofs.Common.{ℕ, List, ◌≡◌, ◌-◌, ◌∙◌, subst, sym, arith}
use Rattle.dubp_wot.specs.Sought.{missing}
use Rattle.dubp_wot.proofs.Counts.{missing-put}
use Rattle.dubp_wot.proofs.found.Found.insert.Goals as goal

pub overflow_sub-left : goal.overflow_sub-left
overflow_sub-left c =
    omega (arith, c.requires.counted, c.count.ensures, missing-put c.args.sought.now.numbers c.args.self.now c.args.number (sym c.has.ensures ∙ c.if-has.false))

pub returns-clause-counted : goal.returns-clause-counted
returns-clause-counted c =
    let numbers = c.args.sought.now.numbers in
    let more = missing-put numbers c.args.self.now c.args.number (sym c.has.ensures ∙ c.if-has.false) in
    subst (λ (xs : List ℕ). c.args.left.now - c.count.result ≡ missing numbers xs) (sym c.in_ok-put.ensures)
    (omega (arith, c.requires.counted, c.count.ensures, more))
