use Rattle.dubp_registry.proofs.registry.Registry.certification_made.Goals as goal

pub returns : goal.returns
returns c = λ chain at. c.certification_made.ensures chain (c.facts.ensures chain at)
