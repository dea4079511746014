use Rattle.std.proofs.Common.{◌≡◌, ◌++◌, ◌∷◌, [], ◌∙◌, append-nil, append_assoc, drop, drop-drop, length, option_to_list, reverse, take, ap, sym, refl, arith}
use Rattle.std.proofs.lemmas.List.{reverse-append}
use Rattle.dubp_people_and_money.proofs.OfKept.{take_next}
use Rattle.dubp_ledger.proofs.traces.move_last.Goals as goal

pub loop-i-init : goal.loop-i-init
loop-i-init c = record {
  from = refl;
  to = sym (append-nil c.args.to.now.items);
  left = omega (arith, c.requires.few);
  room = omega (arith, c.requires.room);
  from_capacity = refl;
  to_capacity = refl;
}

pub loop-i-preserved : goal.loop-i-preserved
loop-i-preserved c =
    let i = c.loop-i.invariant in
    let all = reverse c.args.from.now.items in
    let rest = c.pop.new.self.items in
    let x = c.unwrap.result in
    let items : c.loop-i.from.items ≡ rest ++ x ∷ [] = c.pop.ensures.items ∙ ap (λ o. rest ++ option_to_list o) c.unwrap.ensures in
    let here : drop c.loop-i.i all ≡ x ∷ reverse rest = sym i.from ∙ ap reverse items ∙ reverse-append rest (x ∷ []) in
    record {
      from = sym (ap (drop 1) here) ∙ drop-drop 1 c.loop-i.i all ∙ ap (λ n. drop n all) (omega arith);
      to = c.push_reserved.ensures.items ∙ ap (λ l. l ++ x ∷ []) i.to ∙ append_assoc c.args.to.now.items (take c.loop-i.i all) (x ∷ []) ∙ ap (λ l. c.args.to.now.items ++ l) (sym (take_next c.loop-i.i all (reverse rest) x here));
      left = omega (arith, c.pop.ensures.len, ap (λ o. length (option_to_list o)) c.unwrap.ensures, i.left);
      room = omega (arith, c.push_reserved.ensures.len, c.push_reserved.ensures.capacity, i.room);
      from_capacity = c.pop.ensures.capacity ∙ i.from_capacity;
      to_capacity = c.push_reserved.ensures.capacity ∙ i.to_capacity;
    }
