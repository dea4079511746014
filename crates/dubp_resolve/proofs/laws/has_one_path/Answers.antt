use Rattle.std.proofs.Common.{refl}
use Rattle.dubp_resolve.proofs.Paths.{path_is}
use Rattle.dubp_resolve.proofs.laws.has_one_path.Goals as goal

pub returns : goal.returns
returns c = λ v offers b blocks end p. path_is v.offers offers.numbered b.stamp blocks end p _ refl
