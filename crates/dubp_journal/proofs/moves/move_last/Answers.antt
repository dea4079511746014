use Rattle.std.proofs.Common.{◌≡◌, ◌∙◌, length, sym, ap, ◌-◌, ◌<◌, arith, take, get_or, set, Some, append_assoc, None, refl}
use Rattle.std.specs.VecDeque.{deque_len}
use Rattle.std.proofs.lemmas.List.{length_push, length-take}
use Rattle.dubp_journal.proofs.Turning.{last_left, left_within}
use Rattle.dubp_journal.proofs.moves.move_last.Goals as goal

pub loop-done-preserved : goal.loop-done-preserved
loop-done-preserved g c =
    let k = c.loop-done.invariant in
    let j = c.args.from.now.items in
    let i = c.loop-done._done in
    let left = c.loop-done.from in
    let slots = c.loop-done.slots in
    let r = c.unwrap-slot.result in
    let lt : i < length j = omega (arith, c.requires.few, c.loop-done-test.true) in
    let some : 0 < deque_len left = omega (arith, left.ok.0, ap length k.from, length-take (length j - i) j) in
    let popped : Some r ≡ Some (get_or left.items (deque_len left - 1) r) = sym c.unwrap-slot.ensures ∙ c.pop_back.ensures.value r some in
    let last : r ≡ get_or left.items (length left.items - 1) r = rw (← left.ok.0) cc in
    let parts = last_left c.args.slots.now j left.items i r lt k.from last in
    let read : c.get.result ≡ get_or slots r.0 None = c.get.ensures in
    record {
      from = c.pop_back.ensures.rest ∙ ap (λ n. take (n - 1) left.items) left.ok.0 ∙ parts.from;
      to = rw (c.push_back_reserved.ensures.items, read, k.slots, k.to, parts.to, append_assoc) refl;
      to_len = ap length c.push_back_reserved.ensures.items ∙ length_push c.loop-done.to.items _ ∙ omega (arith, k.to_len);
      slots = c.set.ensures ∙ ap (λ x. set x r.0 r.1) k.slots ∙ parts.undone;
      from_capacity = c.pop_back.ensures.capacity ∙ k.from_capacity;
      to_capacity = c.push_back_reserved.ensures.capacity ∙ k.to_capacity;
      steps = c.tick.ensures ∙ omega (arith, k.steps);
    }

pub get-requires : goal.get-requires
get-requires g c =
    let k = c.loop-done.invariant in
    let j = c.args.from.now.items in
    let i = c.loop-done._done in
    let left = c.loop-done.from in
    let r = c.unwrap-slot.result in
    let lt : i < length j = omega (arith, c.requires.few, c.loop-done-test.true) in
    let some : 0 < deque_len left = omega (arith, left.ok.0, ap length k.from, length-take (length j - i) j) in
    let popped : Some r ≡ Some (get_or left.items (deque_len left - 1) r) = sym c.unwrap-slot.ensures ∙ c.pop_back.ensures.value r some in
    let last : r ≡ get_or left.items (length left.items - 1) r = rw (← left.ok.0) cc in
    rw k.slots (left_within c.args.slots.now j left.items i r lt k.from last c.requires.within)

pub set-requires : goal.set-requires
set-requires g c =
    let k = c.loop-done.invariant in
    let j = c.args.from.now.items in
    let i = c.loop-done._done in
    let left = c.loop-done.from in
    let r = c.unwrap-slot.result in
    let lt : i < length j = omega (arith, c.requires.few, c.loop-done-test.true) in
    let some : 0 < deque_len left = omega (arith, left.ok.0, ap length k.from, length-take (length j - i) j) in
    let popped : Some r ≡ Some (get_or left.items (deque_len left - 1) r) = sym c.unwrap-slot.ensures ∙ c.pop_back.ensures.value r some in
    let last : r ≡ get_or left.items (length left.items - 1) r = rw (← left.ok.0) cc in
    rw k.slots (left_within c.args.slots.now j left.items i r lt k.from last c.requires.within)
