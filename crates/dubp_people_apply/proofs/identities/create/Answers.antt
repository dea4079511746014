use Rattle.std.proofs.Common.{◌∷◌}
use Rattle.dubp_people_apply.proofs.Changed.{fits_new}
use Rattle.dubp_people_apply.proofs.identities.create.Goals as goal

pub returns-clause-at : goal.returns-clause-at
returns-clause-at g c = λ rows t new at. c.in_ok-put_row.ensures.at (rows ∷ t) t at (fits_new c.args.number rows c.args.line.now new)
