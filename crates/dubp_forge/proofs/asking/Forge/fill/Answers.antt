use Rattle.std.proofs.Common.{◌^◌, ◌<◌, ◌≤◌, length, subst, sym}
use Rattle.dubp_block.specs.Text.{size_of}
use Rattle.dubp_pool.specs.Pools.{ArePending}
use Rattle.dubp_forging.specs.Filled.{IsDraft}
use Rattle.dubp_forge.specs.Steps.{IsGiven}
use Rattle.dubp_forge.proofs.Standing.{in_range, in_size, joiners_few}
use Rattle.dubp_forge.proofs.asking.Forge.fill.Goals as goal

pub fill-requires-clause-draft : goal.fill-requires-clause-draft
fill-requires-clause-draft g c =
    let d = c.args.draft.now in
    subst IsDraft (sym c.replace-block.ensures.value)
    (in_range c.args.self.now d.block d.places.items d.marks.items c.requires (subst IsGiven c.self.view_is c.self.invariant) (subst (λ f. ArePending f.pool) c.self.view_is c.laws.ensures))

pub fill-requires-clause-size : goal.fill-requires-clause-size
fill-requires-clause-size g c =
    let d = c.args.draft.now in
    subst (λ b. size_of b < 2 ^ 53) (sym c.replace-block.ensures.value)
    (in_size c.args.self.now d.block d.places.items d.marks.items c.requires (subst IsGiven c.self.view_is c.self.invariant) (subst (λ f. ArePending f.pool) c.self.view_is c.laws.ensures))

pub fill-requires-clause-joiners : goal.fill-requires-clause-joiners
fill-requires-clause-joiners g c =
    let d = c.args.draft.now in
    subst (λ b. length b.joiners ≤ 65536) (sym c.replace-block.ensures.value)
    (joiners_few c.args.self.now d.block d.places.items d.marks.items c.requires (subst IsGiven c.self.view_is c.self.invariant) (subst (λ f. ArePending f.pool) c.self.view_is c.laws.ensures))
