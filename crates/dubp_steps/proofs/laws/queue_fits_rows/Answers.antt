use Rattle.dubp_steps.proofs.Fits.{queue_fits_rows as law}
use Rattle.dubp_steps.proofs.laws.queue_fits_rows.Goals as goal

pub returns : goal.returns
returns c = law
