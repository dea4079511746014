use Rattle.std.proofs.Common.{◌≡◌, ◌+◌, ◌++◌, ◌≤◌, length, take, drop, ap, sym, ◌∙◌, arith, length-drop, length-take-le}
use Rattle.std.proofs.lemmas.List.{with_items_is}
use Rattle.dubp_entries.proofs.Buffers.{take_add}
use Rattle.dubp_entries.proofs.buffer.Buffer.read_from.Goals as goal

pub returns-in-Ok-clause-given : goal.returns-in-Ok-clause-given
returns-in-Ok-clause-given g c =
    let at = c.self.inside.len in
    let n = c.in-Ok.count in
    let new = c.read_into.new.buffer in
    let old = c.self.inside.bytes.items in
    let piece = take n (drop at new) in
    let same_len : length new ≡ length old = c.read_into.auto.buffer ∙ ap length c.as_mut_slice.ensures.value in
    let at_is : length c.args.self.now ≡ at = sym (ap length c.self.view_is) ∙ length-take-le at old (omega (arith, c.self.invariant)) in
    let long : at + n ≤ length new = omega (arith, c.in-Ok.ensures.bound, c.self.invariant) in (
      piece,
      length-take-le n (drop at new) (omega (arith, length-drop at new)),
      ap (take (at + n)) (with_items_is c.self.inside.bytes new (same_len ∙ sym c.self.inside.bytes.ok.0)) ∙ take_add at n new ∙ ap (λ t. t ++ piece) (c.in-Ok.ensures.front ∙ ap (take at) c.as_mut_slice.ensures.value ∙ c.self.view_is),
      c.in-Ok.ensures.given,
    )
