use Rattle.std.proofs.Common.{◌≡◌, ap, subst, sym}
use Rattle.dubp_head.specs.Entries.{PlacesState, IsRising}
use Rattle.dubp_head.proofs.Entries.{lookup_at, lookup_gap}
use Rattle.dubp_head.proofs.places.Places.get.Goals as goal

pub returns-in-Ok : goal.returns-in-Ok
returns-in-Ok c =
    let seen : c.self.inside.pairs.items ≡ c.args.self.now.entries = ap (λ (v : PlacesState). v.entries) c.self.view_is in
    let found = lookup_at _ (subst IsRising seen c.self.invariant) _ _ c.in-Ok.ensures.found c.index.result.now in
    cc

pub returns-in-Err : goal.returns-in-Err
returns-in-Err c = sym (lookup_gap _ _ _ c.in-Err.ensures.absent)
