-- Whether a membership document of this direction asks to be a member.
use Rattle.std.specs.Prelude.{Bool, true, false}
use Rattle.dubp_local.specs.declared.signatures.Direction.{Direction}
use Rattle.dubp_local.specs.declared.signatures.Direction.TheVariants.{In, Out}

abbrev pub comes_in : Direction → Bool
comes_in In = true
comes_in Out = false
