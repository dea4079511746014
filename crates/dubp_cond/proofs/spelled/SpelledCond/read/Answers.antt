use Rattle.dubp_cond.specs.Conditions.{cond_text, IsCond}
use Rattle.dubp_cond.specs.Reading.{cond_of_text}
use Rattle.dubp_cond.proofs.Conditions.{cond_found, cond_again}
use Rattle.dubp_cond.proofs.Exact.{is_found_ok, is_only_ok, is_lacked}
use Rattle.dubp_cond.proofs.spelled.SpelledCond.read.Goals as goal

pub returns-clause-found : goal.returns-clause-found
returns-clause-found c = is_found_ok cond_of_text cond_text IsCond cond_found c.args.text.now c.read_spelled.result c.read_spelled.ensures.exact

pub returns-clause-only : goal.returns-clause-only
returns-clause-only c = is_only_ok cond_of_text cond_text IsCond cond_again c.args.text.now c.read_spelled.result c.read_spelled.ensures.exact

pub returns-clause-lacked : goal.returns-clause-lacked
returns-clause-lacked c = is_lacked cond_of_text cond_text IsCond cond_found c.args.text.now c.read_spelled.result c.read_spelled.ensures.lacked
