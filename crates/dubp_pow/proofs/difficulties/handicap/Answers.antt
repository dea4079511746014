use Rattle.dubp_pow.proofs.Handicaps.{handicap_is_one}
use Rattle.dubp_pow.proofs.difficulties.handicap.Goals as goal

pub returns-clause-value : goal.returns-clause-value
returns-clause-value c = handicap_is_one c.args.blocks c.args.doubled_median c.greatest_reached.result c.greatest_reached.ensures
