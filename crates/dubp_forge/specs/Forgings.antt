-- What a call of `forge` says. Protocol: forging.
use Rattle.std.specs.Prelude.{◌≡◌, ◌≢◌, [], Result, Ok, Err, Some, ⊤}
use Rattle.dubp_block.specs.Text.{IsBlock}
use Rattle.dubp_forging.specs.Forged.{Forging, IsForged, IsTried}
use Rattle.dubp_forge.specs.declared.forged.Forged.{Forged}
use Rattle.dubp_forge.specs.declared.forged.ForgeRefusal.{ForgeRefusal}
use Rattle.dubp_forge.specs.declared.forged.ForgeRefusal.TheVariants.{NoChain, Refused, NoMemory}

-- the forged block, with what is left out; or the chain has no block; or the draft without documents breaks this rule
abbrev pub IsForging : Forging → Result Forged ForgeRefusal → Type 0
IsForging f (Ok forged) = (f.chain ≢ []) × IsBlock forged.block × IsForged f forged.block forged.left.items
IsForging f (Err NoChain) = f.chain ≡ []
IsForging f (Err (Refused rule)) = (f.chain ≢ []) × IsTried f [] (Some rule)
IsForging f (Err NoMemory) = ⊤
