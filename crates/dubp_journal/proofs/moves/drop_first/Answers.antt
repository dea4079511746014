use Rattle.std.proofs.Common.{◌≡◌, ◌∙◌, ◌∷◌, ◌++◌, ap, drop}
use Rattle.std.specs.Option.{option_to_list}
use Rattle.std.proofs.lemmas.List.{drop-drop}
use Rattle.dubp_journal.proofs.Counting.{released, named_front}
use Rattle.dubp_journal.proofs.moves.drop_first.Goals as goal

pub release-requires-clause-within : goal.release-requires-clause-within
release-requires-clause-within g c =
    let j = c.loop-done.journal.items in
    let rest = c.pop_front.new.self.items in
    let r = c.unwrap-slot.result in
    let split : j ≡ r ∷ rest = c.pop_front.ensures.items ∙ ap (λ o. option_to_list o ++ rest) c.unwrap-slot.ensures in
    (released c.args.uses.now.items c.loop-done.uses.items c.args.journal.now.items j rest r c.loop-done.invariant.uses c.requires.counted (named_front j rest r split)).within

pub release-requires-clause-named : goal.release-requires-clause-named
release-requires-clause-named g c =
    let j = c.loop-done.journal.items in
    let rest = c.pop_front.new.self.items in
    let r = c.unwrap-slot.result in
    let split : j ≡ r ∷ rest = c.pop_front.ensures.items ∙ ap (λ o. option_to_list o ++ rest) c.unwrap-slot.ensures in
    (released c.args.uses.now.items c.loop-done.uses.items c.args.journal.now.items j rest r c.loop-done.invariant.uses c.requires.counted (named_front j rest r split)).some

pub loop-done-preserved : goal.loop-done-preserved
loop-done-preserved g c =
    let j = c.loop-done.journal.items in
    let rest = c.pop_front.new.self.items in
    let r = c.unwrap-slot.result in
    let k = c.loop-done.invariant in
    let split : j ≡ r ∷ rest = c.pop_front.ensures.items ∙ ap (λ o. option_to_list o ++ rest) c.unwrap-slot.ensures in
    let gone = (released c.args.uses.now.items c.loop-done.uses.items c.args.journal.now.items j rest r k.uses c.requires.counted (named_front j rest r split)).follows in
    record {
      items = c.pop_front.ensures.rest ∙ ap (drop 1) k.items ∙ drop-drop 1 c.loop-done._done c.args.journal.now.items;
      uses = rw c.release.ensures.uses gone;
      capacity = c.pop_front.ensures.capacity ∙ k.capacity;
    }
