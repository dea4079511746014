use Rattle.std.proofs.Common.{◌≡◌, ◌∙◌, ◌∷◌, ◌++◌, [], ap, ◌-◌, ◌<◌, length, take, get_or, set, Some, sym, arith}
use Rattle.std.specs.Option.{option_to_list}
use Rattle.std.specs.VecDeque.{deque_len}
use Rattle.std.proofs.lemmas.List.{length-take}
use Rattle.dubp_journal.proofs.Counting.{released, named_back}
use Rattle.dubp_journal.proofs.Turning.{last_left, left_within}
use Rattle.dubp_journal.proofs.moves.undo_last.Goals as goal

pub release-requires-clause-within : goal.release-requires-clause-within
release-requires-clause-within g c =
    let j = c.loop-done.journal.items in
    let rest = c.pop_back.new.self.items in
    let r = c.unwrap-slot.result in
    let split : j ≡ rest ++ r ∷ [] = c.pop_back.ensures.items ∙ ap (λ o. rest ++ option_to_list o) c.unwrap-slot.ensures in
    (released c.args.uses.now.items c.loop-done.uses.items c.args.journal.now.items j rest r c.loop-done.invariant.uses c.requires.counted (named_back j rest r split)).within

pub release-requires-clause-named : goal.release-requires-clause-named
release-requires-clause-named g c =
    let j = c.loop-done.journal.items in
    let rest = c.pop_back.new.self.items in
    let r = c.unwrap-slot.result in
    let split : j ≡ rest ++ r ∷ [] = c.pop_back.ensures.items ∙ ap (λ o. rest ++ option_to_list o) c.unwrap-slot.ensures in
    (released c.args.uses.now.items c.loop-done.uses.items c.args.journal.now.items j rest r c.loop-done.invariant.uses c.requires.counted (named_back j rest r split)).some

pub loop-done-preserved : goal.loop-done-preserved
loop-done-preserved g c =
    let k = c.loop-done.invariant in
    let j = c.args.journal.now.items in
    let i = c.loop-done._done in
    let left = c.loop-done.journal in
    let rest = c.pop_back.new.self.items in
    let r = c.unwrap-slot.result in
    let lt : i < length j = omega (arith, c.requires.few, c.loop-done-test.true) in
    let some : 0 < deque_len left = omega (arith, left.ok.0, ap length k.journal, length-take (length j - i) j) in
    let popped : Some r ≡ Some (get_or left.items (deque_len left - 1) r) = sym c.unwrap-slot.ensures ∙ c.pop_back.ensures.value r some in
    let last : r ≡ get_or left.items (length left.items - 1) r = rw (← left.ok.0) cc in
    let parts = last_left c.args.slots.now j left.items i r lt k.journal last in
    let split : left.items ≡ rest ++ r ∷ [] = c.pop_back.ensures.items ∙ ap (λ o. rest ++ option_to_list o) c.unwrap-slot.ensures in
    let gone = (released c.args.uses.now.items c.loop-done.uses.items j left.items rest r k.uses c.requires.counted (named_back left.items rest r split)).follows in
    record {
      journal = c.pop_back.ensures.rest ∙ ap (λ n. take (n - 1) left.items) left.ok.0 ∙ parts.from;
      slots = c.set.ensures ∙ ap (λ x. set x r.0 r.1) k.slots ∙ parts.undone;
      uses = rw c.release.ensures.uses gone;
      capacity = c.pop_back.ensures.capacity ∙ k.capacity;
      steps = c.tick.ensures ∙ omega (arith, k.steps);
    }

pub set-requires : goal.set-requires
set-requires g c =
    let k = c.loop-done.invariant in
    let j = c.args.journal.now.items in
    let i = c.loop-done._done in
    let left = c.loop-done.journal in
    let r = c.unwrap-slot.result in
    let lt : i < length j = omega (arith, c.requires.few, c.loop-done-test.true) in
    let some : 0 < deque_len left = omega (arith, left.ok.0, ap length k.journal, length-take (length j - i) j) in
    let popped : Some r ≡ Some (get_or left.items (deque_len left - 1) r) = sym c.unwrap-slot.ensures ∙ c.pop_back.ensures.value r some in
    let last : r ≡ get_or left.items (length left.items - 1) r = rw (← left.ok.0) cc in
    rw k.slots (left_within c.args.slots.now j left.items i r lt k.journal last c.requires.within)
