use Rattle.std.proofs.Common.{rules, ◌∷◌, refl, subst, sym, ◌∙◌}
use Rattle.std.specs.List.Sorted.{IsPermutation}
use Rattle.std.proofs.lemmas.List.Sorted.{IsPermutation-cons, IsPermutation-trans}
use Rattle.dubp_verdict.proofs.Sets.{found_among, with_verdict-new, with_verdict-there}
use Rattle.dubp_verdict.proofs.verdicts.insert.Goals as goal

pub returns-then-contains-clause-added : goal.returns-then-contains-clause-added
returns-then-contains-clause-added c =
    let t = c.args.entry in let v = c.args.order.now.value in
    sym (with_verdict-there t v (sym (found_among t v v c.args.entries.now.keys refl c.requires) ∙ sym c.contains.ensures ∙ c.if-contains.true))

pub returns-clause-same : goal.returns-clause-same
returns-clause-same c =
    let t = c.args.entry in let v = c.args.order.now.value in let keys = c.args.entries.now.keys in let after = c.insert.new.self.keys in
    let put : IsPermutation (t ∷ keys) after = search rules in
    subst (λ l. IsPermutation l after) (sym c.note.ensures) (IsPermutation-trans (t ∷ v) (t ∷ keys) after (IsPermutation-cons t v keys c.requires) put)

pub returns-clause-added : goal.returns-clause-added
returns-clause-added c =
    let t = c.args.entry in let v = c.args.order.now.value in
    c.note.ensures ∙ sym (with_verdict-new t v (sym (found_among t v v c.args.entries.now.keys refl c.requires) ∙ sym c.contains.ensures ∙ c.if-contains.false))
