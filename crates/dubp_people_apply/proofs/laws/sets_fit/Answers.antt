use Rattle.dubp_people_apply.proofs.Fitting.{sets_fit as fits}
use Rattle.dubp_people_apply.proofs.laws.sets_fit.Goals as goal

pub returns : goal.returns
returns c = fits
