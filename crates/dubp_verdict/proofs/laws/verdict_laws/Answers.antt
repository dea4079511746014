use Rattle.dubp_verdict.proofs.Sets.{found_if_stands, with_verdict-has, with_verdict-there, with_verdict-within}
use Rattle.dubp_verdict.proofs.laws.verdict_laws.Goals as goal

pub returns-clause-has : goal.returns-clause-has
returns-clause-has c = with_verdict-has

pub returns-clause-within : goal.returns-clause-within
returns-clause-within c = with_verdict-within

pub returns-clause-repeat : goal.returns-clause-repeat
returns-clause-repeat c t v stands = with_verdict-there t v (found_if_stands v t stands)
