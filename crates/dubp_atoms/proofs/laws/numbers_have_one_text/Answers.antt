use Rattle.std.proofs.Common.{ap, sym, ◌∙◌}
use Rattle.dubp_atoms.specs.Reading.{number_of}
use Rattle.dubp_atoms.proofs.Numbers.{number_again}
use Rattle.dubp_atoms.proofs.Numbers.{some_is}
use Rattle.dubp_atoms.proofs.laws.numbers_have_one_text.Goals as goal

pub returns : goal.returns
returns c = λ x y is js e. some_is x y (sym (number_again x is) ∙ ap number_of e ∙ number_again y js)
