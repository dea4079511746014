use Rattle.dubp_registry.proofs.registry.Registry.made.Goals as goal

pub returns : goal.returns
returns c = λ chain at sound. c.made.ensures chain (c.facts.ensures chain at) sound
