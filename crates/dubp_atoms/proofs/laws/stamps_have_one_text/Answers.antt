use Rattle.std.proofs.Common.{ap, sym, ◌∙◌}
use Rattle.dubp_atoms.specs.Reading.{stamp_of}
use Rattle.dubp_atoms.proofs.Stamps.{stamp_again}
use Rattle.dubp_atoms.proofs.Numbers.{some_is}
use Rattle.dubp_atoms.proofs.laws.stamps_have_one_text.Goals as goal

pub returns : goal.returns
returns c = λ x y is js e. some_is x y (sym (stamp_again x is) ∙ ap stamp_of e ∙ stamp_again y js)
