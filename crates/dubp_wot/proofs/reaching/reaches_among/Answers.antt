use Rattle.std.proofs.Common.{◌≡◌, List, length, subst}
use Rattle.dubp_atoms.specs.Same.{Text}
use Rattle.dubp_atoms.specs.Walks.{IsCountOf, Reaches, others}
use Rattle.dubp_wot.proofs.Levels.{where_ok}
use Rattle.dubp_wot.proofs.reaching.reaches_among.Goals as goal

pub returns-clause-reached : goal.returns-clause-reached
returns-clause-reached g c =
    where_ok c.reaches_among_known.result c.reaches_among_known.ensures.reached
    (λ r h members pairs shown.
    subst (λ (keys : List Text). IsCountOf (λ s. Reaches members pairs c.args.steps_max s c.args.target) (others keys c.args.target) r.0) c.in_ok-sought.ensures.keys
    (h members pairs shown))

pub returns-clause-count : goal.returns-clause-count
returns-clause-count g c =
    where_ok c.reaches_among_known.result c.reaches_among_known.ensures.count
    (λ r h. subst (λ (keys : List Text). r.1 ≡ length (others keys c.args.target)) c.in_ok-sought.ensures.keys h)
