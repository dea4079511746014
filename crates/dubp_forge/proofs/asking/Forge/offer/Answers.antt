use Rattle.std.proofs.Common.{◌≡◌, ◌∙◌, ◌∷◌, ◌++◌, [], ap, arith, length, sym, take}
use Rattle.dubp_forge.proofs.Growing.{extends_same, offer_leaves, offer_stays, taken_back}
use Rattle.dubp_forge.proofs.asking.Forge.offer.Goals as goal

pub returns-then-is_mendable-clause-offers : goal.returns-then-is_mendable-clause-offers
returns-then-is_mendable-clause-offers g c d at =
    offer_stays c.args.self.now c.args.draft.now.places.items c.add.new.draft.places.items c.test.new.draft.places.items c.args.place d c.in_ok-found.found at c.in_ok-add.ensures.places c.in_ok-found.ensures.tried
    (sym c.is_mendable.ensures ∙ c.if-is_mendable.true) (ap (λ v. v.items) c.test.ensures.places)

pub returns-clause-offers : goal.returns-clause-offers
returns-clause-offers g c d at =
    let ps = c.args.draft.now.places in
    let qs = c.add.new.draft.places.items in
    let p = c.args.place in
    let count : c.len-count.result ≡ length ps.items = omega (arith, c.len-count.ensures, ps.ok.0) in
    let back : c.take_back.new.draft.places.items ≡ ps.items =
    c.take_back.ensures.places ∙ ap (λ n. take n c.test.new.draft.places.items) count ∙ ap (λ v. take (length ps.items) v.items) c.test.ensures.places
    ∙ taken_back ps.items qs p (extends_same (ps.items ++ p ∷ []) qs c.in_ok-add.ensures.places) in
    offer_leaves c.args.self.now ps.items qs c.take_back.new.draft.places.items p d c.in_ok-found.found at c.in_ok-add.ensures.places c.in_ok-found.ensures.tried
    (sym c.is_mendable.ensures ∙ c.if-is_mendable.false) back

pub returns-clause-grows : goal.returns-clause-grows
returns-clause-grows g c =
    let ps = c.args.draft.now.places in
    let qs = c.add.new.draft.places.items in
    let p = c.args.place in
    let count : c.len-count.result ≡ length ps.items = omega (arith, c.len-count.ensures, ps.ok.0) in
    let back : c.take_back.new.draft.places.items ≡ ps.items =
    c.take_back.ensures.places ∙ ap (λ n. take n c.test.new.draft.places.items) count ∙ ap (λ v. take (length ps.items) v.items) c.test.ensures.places
    ∙ taken_back ps.items qs p (extends_same (ps.items ++ p ∷ []) qs c.in_ok-add.ensures.places) in
    extends_same ps.items c.take_back.new.draft.places.items back
