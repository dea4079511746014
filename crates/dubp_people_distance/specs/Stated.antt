-- The steps of a walk that the parameters of a chain allow. Protocol: distance, parameters.
use Rattle.std.specs.Prelude.{◌≡◌, ◌≤◌, ◌⊎◌}
use Rattle.dubp_chain.specs.Chains.{no_params}
use Rattle.dubp_params.specs.declared.params.Params.{Params}

-- from 1 to 16 steps
abbrev pub HaveSteps : Params → Type 0
HaveSteps p = (1 ≤ p.step_max) × (p.step_max ≤ 16)

-- there are steps, or no parameters are set
abbrev pub AreStated : Params → Type 0
AreStated p = HaveSteps p ⊎ (p ≡ no_params)
