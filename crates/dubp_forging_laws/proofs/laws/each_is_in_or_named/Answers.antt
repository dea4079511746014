use Rattle.dubp_forging_laws.proofs.Named.{each_named}
use Rattle.dubp_forging_laws.proofs.laws.each_is_in_or_named.Goals as goal

pub returns : goal.returns
returns c = each_named
