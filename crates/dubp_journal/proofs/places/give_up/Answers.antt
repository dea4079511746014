use Rattle.std.proofs.Common.{◌≡◌, ◌∙◌, sym, get_or, length, ◌<◌, Option, Some, None, is_some, false, refl, arith}
use Rattle.std.proofs.lemmas.List.{get_or_default}
use Rattle.dubp_journal.proofs.Giving.{gives_up_one}
use Rattle.dubp_journal.proofs.places.give_up.Goals as goal

none_is : {X : Type 0} (r : Option X) → is_some r ≡ false → r ≡ None
none_is None e = refl
none_is (Some x) e = cc

pub returns-in-Some : goal.returns-in-Some
returns-in-Some g c =
    let keys = c.args.keys.now.items in
    let slots = c.args.slots.now in
    let i = c.args.slot in
    let below : i < length keys = omega (arith, c.if-slot-len.true, c.len.ensures, c.requires.keys_each) in
    let nothing : get_or slots i None ≡ None = sym c.get.ensures ∙ none_is c.get.result c.if-is_none.ensures in
    let at : get_or keys i None ≡ Some c.in-Some.k = sym (get_or_default keys i c.index.result.now None below) ∙ sym c.index.ensures ∙ c.in-Some.is in
    gives_up_one g.met.F.Finder.total c.requires.finds i c.in-Some.k at (g.F.Finder.slot_of c.remove.new.self) c.remove.ensures c.args.uses.now slots (record { nothing = nothing; unnamed = c.if-uses-slot-eq0.true })
