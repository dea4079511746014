use Rattle.std.proofs.Common.{◌≡◌, Option, Some, None, refl, ap, sym, ◌∙◌}
use Rattle.std.specs.Prelude.{option_map}
use Rattle.dubp_left.specs.OfChain.{Head}
use Rattle.dubp_left.specs.OfChain.{head_numbered}
use Rattle.dubp_left.specs.OfFacts.{BlockTime}
use Rattle.dubp_left.specs.OfFacts.{block_time}
use Rattle.dubp_registry.proofs.registry.Registry.time_numbered.Goals as goal

time_told : (o : Option Head) → option_map (λ (at : BlockTime). at.time) (option_map block_time o) ≡ option_map (λ h. h.median_time) o
time_told None = refl
time_told (Some h) = refl

pub returns-in-Some : goal.returns-in-Some
returns-in-Some c = λ chain is. ap (option_map (λ (at : BlockTime). at.time)) (sym c.in-Some.is ∙ c.time_of.ensures chain (c.facts.ensures chain is)) ∙ time_told (head_numbered chain c.args.number)

pub returns-in-None : goal.returns-in-None
returns-in-None c = λ chain is. ap (option_map (λ (at : BlockTime). at.time)) (sym c.in-None.is ∙ c.time_of.ensures chain (c.facts.ensures chain is)) ∙ time_told (head_numbered chain c.args.number)
