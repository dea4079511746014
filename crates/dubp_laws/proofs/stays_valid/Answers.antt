-- A valid chain stays valid with more verdicts.
use Rattle.dubp_laws.proofs.MoreVerdicts.{valid_more}
use Rattle.dubp_laws.proofs.stays_valid.Goals as goal

pub returns : goal.returns
returns c = λ v w within chain valid. valid_more v w within chain valid
