use Rattle.dubp_cond.specs.Conditions.{cond_text, IsCond}
use Rattle.dubp_cond.specs.Reading.{cond_of_text}
use Rattle.dubp_cond.proofs.Conditions.{cond_found, cond_again}
use Rattle.dubp_cond.proofs.Exact.{is_told}
use Rattle.dubp_cond.proofs.passing.is_cond.Goals as goal

pub returns : goal.returns
returns c = is_told cond_of_text cond_text IsCond cond_found cond_again c.args.text.now c.pass_whole.result c.pass_whole.ensures.passed
