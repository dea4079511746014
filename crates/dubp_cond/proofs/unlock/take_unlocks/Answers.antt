use Rattle.std.proofs.Common.{arith, ap, ◌≡◌, ◌-◌, ◌+◌, [], ◌∷◌, ◌∙◌, codes, length, length-append}
use Rattle.dubp_cond.specs.ReadingLines.{unlock_at, unlocks_at}
use Rattle.dubp_cond.proofs.UpToLoops.{no_turn, turn_fails, turn_ends, turn_goes}
use Rattle.dubp_cond.proofs.unlock.take_unlocks.Goals as goal

pub returns-in_default : goal.returns-in_default
returns-in_default c =
    let n = length c.functions.list.items in
    turn_fails unlock_at (codes " ") c.functions.list.items c.functions.cursor (unlocks_at 8 c.args.cursor.now) (8 - n) (8 - (n + 1)) (omega (arith, c.functions.list.ok.0)) c.functions.invariant
    c.in_ok-unlock.field-0 c.take_unlock.new.cursor c.in_ok-unlock.ensures c.in_default.is

pub returns-then-not-take_word : goal.returns-then-not-take_word
returns-then-not-take_word c =
    let n = length c.functions.list.items in
    turn_ends unlock_at (codes " ") c.functions.list.items c.functions.cursor (unlocks_at 8 c.args.cursor.now) (8 - n) (8 - (n + 1)) (omega (arith, c.functions.list.ok.0)) c.functions.invariant
    c.in_ok-unlock.field-0 c.in-Some.unlock c.take_unlock.new.cursor c.take_word.new.self c.take_word.result c.push.new.list.items c.in_ok-unlock.ensures c.in-Some.is c.in_ok-push.ensures.appended
    c.take_word.ensures.taken c.if-not-take_word.true c.take_word.ensures.kept

pub functions-preserved : goal.functions-preserved
functions-preserved c =
    let n = length c.functions.list.items in
    let m = length c.push.new.list.items in
    let more : m ≡ n + 1 = ap length c.in_ok-push.ensures.appended ∙ length-append c.functions.list.items (c.in-Some.unlock ∷ []) in
    turn_goes unlock_at (codes " ") c.functions.list.items c.functions.cursor (unlocks_at 8 c.args.cursor.now) (8 - n) (8 - m) (omega (arith, c.functions.list.ok.0)) c.functions.invariant
    c.in_ok-unlock.field-0 c.in-Some.unlock c.take_unlock.new.cursor c.take_word.new.self c.take_word.result c.push.new.list.items c.in_ok-unlock.ensures c.in-Some.is c.in_ok-push.ensures.appended
    c.take_word.ensures.taken c.if-not-take_word.false

pub returns : goal.returns
returns c =
    no_turn unlock_at (codes " ") c.functions.list.items c.functions.cursor (unlocks_at 8 c.args.cursor.now) (8 - length c.functions.list.items)
    (omega (arith, c.functions.list.ok.0)) c.functions.invariant
