use Rattle.dubp_cond.specs.Conditions.{cond_text, IsCond}
use Rattle.dubp_cond.specs.Reading.{cond_of_text}
use Rattle.dubp_cond.proofs.Exact.{one_text}
use Rattle.dubp_cond.proofs.Conditions.{cond_again}
use Rattle.dubp_cond.proofs.laws.conditions_have_one_text.Goals as goal

pub returns : goal.returns
returns c = one_text cond_of_text cond_text IsCond cond_again
