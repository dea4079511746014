use Rattle.std.proofs.Common.{◌≡◌, ℕ, sym, subst}
use Rattle.dubp_atoms.specs.Walks.{d_sen_of}
use Rattle.dubp_people_views.proofs.Nearness.{d_sen_of-none}
use Rattle.dubp_people_views.proofs.distances.least_certifications.Goals as goal

pub returns-then-steps-eq0 : goal.returns-then-steps-eq0
returns-then-steps-eq0 c = subst (λ (n : ℕ). 0 ≡ d_sen_of c.args.members n) (sym c.if-steps-eq0.true) (d_sen_of-none c.args.members)
