use Rattle.std.proofs.Common.{◌≡◌, ◌∷◌, ◌++◌, [], Some, set, subst, sym, true}
use Rattle.std.specs.List.{slice_get}
use Rattle.dubp_pool.specs.Pools.{ArePending}
use Rattle.dubp_forge.specs.Steps.{IsDrafted}
use Rattle.dubp_forge.proofs.Standing.{stands_added}
use Rattle.dubp_forge.proofs.asking.Forge.add.Goals as goal

pub returns-clause-stands : goal.returns-clause-stands
returns-clause-stands g c =
    let f = c.args.self.now in
    let d = c.args.draft.now in
    let p = c.args.place in
    subst (λ l. IsDrafted f c.add_line.new.block l (set d.marks.items p true)) (sym c.in_ok-push_place.ensures)
    (subst (λ b. IsDrafted f b (d.places.items ++ p ∷ []) (set d.marks.items p true)) (sym c.in_ok-add_line.ensures)
    (stands_added f d.block d.places.items d.marks.items c.requires.stands p c.at.result.now
    (subst (λ x. ArePending x.pool) c.self.view_is c.laws.ensures)
    (subst (λ x. slice_get x.pool p ≡ Some c.at.result.now) c.self.view_is c.at.ensures) c.requires.free))
