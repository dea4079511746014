use Rattle.std.proofs.Common.{ap, sym, ◌∙◌}
use Rattle.dubp_atoms.proofs.Numbers.{some_is}
use Rattle.dubp_params.specs.Reading.{params_of}
use Rattle.dubp_params.proofs.ParamsRead.{params_again}
use Rattle.dubp_params.proofs.laws.parameters_have_one_text.Goals as goal

pub returns : goal.returns
returns c = λ p q is js e. some_is p q (sym (params_again p is) ∙ ap params_of e ∙ params_again q js)
