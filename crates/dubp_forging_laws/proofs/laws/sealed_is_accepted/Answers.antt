use Rattle.dubp_forging_laws.proofs.Sealed.{accepted_sealed}
use Rattle.dubp_forging_laws.proofs.laws.sealed_is_accepted.Goals as goal

pub returns : goal.returns
returns c = accepted_sealed
