use Rattle.std.proofs.Common.{ap, sym, ◌∙◌}
use Rattle.dubp_atoms.specs.Reading.{signed_of}
use Rattle.dubp_atoms.proofs.Signed.{signed_again}
use Rattle.dubp_atoms.proofs.Numbers.{some_is}
use Rattle.dubp_atoms.proofs.laws.signed_numbers_have_one_text.Goals as goal

pub returns : goal.returns
returns c = λ x y is js e. some_is x y (sym (signed_again x is) ∙ ap signed_of e ∙ signed_again y js)
