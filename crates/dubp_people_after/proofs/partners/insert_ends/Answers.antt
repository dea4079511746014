use Rattle.std.proofs.Common.{◌≡◌, ◌∙◌, ap, Bool, true, false, ◌&&◌, ◌||◌, refl}
use Rattle.dubp_atoms.specs.Same.{same_text}
use Rattle.dubp_people_after.proofs.partners.insert_ends.Goals as goal

both_ways : (a s t u v : Bool) → ((a || (s && t)) || (u && v)) ≡ (a || ((s && t) || (v && u)))
both_ways true s t u v = refl
both_ways false true true u v = refl
both_ways false true false true true = refl
both_ways false true false true false = refl
both_ways false true false false true = refl
both_ways false true false false false = refl
both_ways false false t true true = refl
both_ways false false t true false = refl
both_ways false false t false true = refl
both_ways false false t false false = refl

pub returns : goal.returns
returns c = λ x y.
    let line = c.args.line.now in
    c.in_ok-insert_partner-2.ensures x y ∙ ap (λ t. t || (same_text x line.to && same_text y line.from)) (c.in_ok-insert_partner.ensures x y)
    ∙ both_ways _ (same_text x line.from) (same_text y line.to) (same_text x line.to) (same_text y line.from)
