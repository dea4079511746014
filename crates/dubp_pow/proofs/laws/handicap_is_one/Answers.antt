use Rattle.dubp_pow.proofs.Handicaps.{handicap_of-is, handicap_is_one}
use Rattle.dubp_pow.proofs.laws.handicap_is_one.Goals as goal

pub returns-clause-found : goal.returns-clause-found
returns-clause-found c = handicap_of-is

pub returns-clause-only : goal.returns-clause-only
returns-clause-only c = handicap_is_one
