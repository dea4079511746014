use Rattle.std.proofs.Common.{◌≡◌, ◌∙◌, ◌∷◌, ◌++◌, [], Some, set, subst, sym, ap, false}
use Rattle.std.specs.List.{slice_get}
use Rattle.std.specs.Option.{option_to_list}
use Rattle.dubp_pool.specs.Pools.{ArePending}
use Rattle.dubp_forge.specs.Steps.{IsDrafted}
use Rattle.dubp_forge.proofs.Standing.{stands_taken}
use Rattle.dubp_forge.proofs.asking.Forge.take_last.Goals as goal

pub returns-clause-stands : goal.returns-clause-stands
returns-clause-stands g c =
    let f = c.args.self.now in
    let d = c.args.draft.now in
    let ps = c.pop.new.self.items in
    let p = c.unwrap-place.result in
    let whole : d.places.items ≡ ps ++ p ∷ [] = c.pop.ensures.items ∙ ap (λ o. ps ++ option_to_list o) c.unwrap-place.ensures in
    subst (λ b. IsDrafted f b ps (set d.marks.items p false)) (sym c.remove_line.ensures)
    (stands_taken f d.block ps p d.marks.items c.at.result.now (subst (λ l. IsDrafted f d.block l d.marks.items) whole c.requires.stands)
    (subst (λ x. ArePending x.pool) c.self.view_is c.laws.ensures)
    (subst (λ x. slice_get x.pool p ≡ Some c.at.result.now) c.self.view_is c.at.ensures))
