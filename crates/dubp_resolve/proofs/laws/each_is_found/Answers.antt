use Rattle.dubp_resolve.proofs.Apart.{found_apart}
use Rattle.dubp_resolve.proofs.laws.each_is_found.Goals as goal

pub returns : goal.returns
returns c = found_apart
