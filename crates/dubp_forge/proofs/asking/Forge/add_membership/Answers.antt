use Rattle.std.proofs.Common.{◌∙◌, ap}
use Rattle.dubp_forge.specs.Steps.{docs_at}
use Rattle.dubp_forge.proofs.Growing.{joins}
use Rattle.dubp_forge.proofs.asking.Forge.add_membership.Goals as goal

pub returns-in_ok-add-in-Some-clause-joins : goal.returns-in_ok-add-in-Some-clause-joins
returns-in_ok-add-in-Some-clause-joins g c =
    let f = c.args.self.now in
    ap (docs_at f.pool) c.in_ok-add-in-Some.ensures.places ∙ joins f c.args.draft.now.places.items c.in-Some.place c.args.identity.now c.in-Some.ensures.1
