use Rattle.std.proofs.Common.{◌≡◌, ◌∙◌, sym, refl, Some, None, arith, codes, ◌-◌, ◌+◌}
use Rattle.dubp_cond.specs.Gives.{left_of, spelled_unlock}
use Rattle.dubp_cond.specs.ReadingLines.{unlock_at, unlocks_at}
use Rattle.dubp_cond.proofs.UpToLoops.{pass_none, pass_stops, pass_last, pass_more}
use Rattle.dubp_cond.proofs.unlock.pass_unlocks.Goals as goal

pub returns-in_default : goal.returns-in_default
returns-in_default c =
    let n = c.functions.counter in
    let none : unlock_at c.functions.cursor ≡ None = sym c.take_spelled.ensures ∙ rw c.in_default.is refl in
    pass_stops unlock_at (codes " ") c.functions.cursor (left_of (unlocks_at 8 c.args.cursor.now)) (8 - n) (8 - (n + 1)) (omega arith) c.functions.invariant none

pub returns-then-not-take_word : goal.returns-then-not-take_word
returns-then-not-take_word c =
    let n = c.functions.counter in
    let read : unlock_at c.functions.cursor ≡ Some (spelled_unlock c.in-Some.field-0, c.take_spelled.new.cursor) = sym c.take_spelled.ensures ∙ rw c.in-Some.is refl in
    pass_last unlock_at (codes " ") c.functions.cursor (left_of (unlocks_at 8 c.args.cursor.now)) (8 - n) (8 - (n + 1)) (omega arith) c.functions.invariant
    (spelled_unlock c.in-Some.field-0) c.take_spelled.new.cursor c.take_word.new.self c.take_word.result read c.take_word.ensures.taken c.if-not-take_word.true c.take_word.ensures.kept

pub functions-preserved : goal.functions-preserved
functions-preserved c =
    let n = c.functions.counter in
    let read : unlock_at c.functions.cursor ≡ Some (spelled_unlock c.in-Some.field-0, c.take_spelled.new.cursor) = sym c.take_spelled.ensures ∙ rw c.in-Some.is refl in
    pass_more unlock_at (codes " ") c.functions.cursor (left_of (unlocks_at 8 c.args.cursor.now)) (8 - n) (8 - (n + 1)) (omega arith) c.functions.invariant
    (spelled_unlock c.in-Some.field-0) c.take_spelled.new.cursor c.take_word.new.self c.take_word.result read c.take_word.ensures.taken c.if-not-take_word.false

pub returns : goal.returns
returns c =
    pass_none unlock_at (codes " ") c.functions.cursor (left_of (unlocks_at 8 c.args.cursor.now)) (8 - c.functions.counter) (omega arith) c.functions.invariant
