use Rattle.std.proofs.Common.{ap, sym, ◌∙◌}
use Rattle.dubp_atoms.specs.Reading.{dec_of}
use Rattle.dubp_atoms.proofs.Decs.{dec_again}
use Rattle.dubp_atoms.proofs.Numbers.{some_is}
use Rattle.dubp_atoms.proofs.laws.decimals_have_one_text.Goals as goal

pub returns : goal.returns
returns c = λ x y is js e. some_is x y (sym (dec_again x is) ∙ ap dec_of e ∙ dec_again y js)
