use Rattle.dubp_resolve.proofs.Paths.{fits_always}
use Rattle.dubp_resolve.proofs.laws.fits_always.Goals as goal

pub returns : goal.returns
returns c = fits_always
