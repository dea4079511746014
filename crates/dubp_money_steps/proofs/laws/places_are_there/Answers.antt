use Rattle.dubp_money_steps.proofs.Bounds.{places_are_there as law}
use Rattle.dubp_money_steps.proofs.laws.places_are_there.Goals as goal

pub returns : goal.returns
returns c = law
