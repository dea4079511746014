use Rattle.dubp_entries.proofs.Cuts.{cut_once, cut_goes_on}
use Rattle.dubp_entries.proofs.Exists.{cut_exists}
use Rattle.dubp_entries.proofs.laws.cutting.Goals as goal

pub returns-clause-once : goal.returns-clause-once
returns-clause-once c = cut_once

pub returns-clause-exists : goal.returns-clause-exists
returns-clause-exists c = cut_exists

pub returns-clause-goes_on : goal.returns-clause-goes_on
returns-clause-goes_on c = cut_goes_on
