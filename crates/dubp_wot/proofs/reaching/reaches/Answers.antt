use Rattle.std.proofs.Common.{◌∙◌, List, subst}
use Rattle.dubp_atoms.specs.Same.{Text}
use Rattle.dubp_atoms.specs.Walks.{IsCountOf, Reaches, others}
use Rattle.dubp_wot.proofs.Levels.{where_ok}
use Rattle.dubp_wot.proofs.reaching.reaches.Goals as goal

pub returns-clause-reached : goal.returns-clause-reached
returns-clause-reached g c =
    where_ok c.reaches_among.result c.reaches_among.ensures.reached
    (λ r h members pairs shown.
    subst (λ (keys : List Text). IsCountOf (λ s. Reaches members pairs c.args.steps_max s c.args.target) (others keys c.args.target) r.0)
    (c.deref.ensures.value ∙ c.in_ok-sentries.ensures members pairs shown) (h members pairs shown))
