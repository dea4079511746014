use Rattle.dubp_registry.proofs.registry.Registry.first.Goals as goal

pub returns : goal.returns
returns c = λ chain at. c.first.ensures chain (c.facts.ensures chain at)
