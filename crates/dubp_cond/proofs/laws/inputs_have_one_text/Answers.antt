use Rattle.dubp_cond.specs.Sources.{input_text, IsInput}
use Rattle.dubp_cond.specs.ReadingLines.{input_of}
use Rattle.dubp_cond.proofs.Exact.{one_text}
use Rattle.dubp_cond.proofs.Sources.{input_again}
use Rattle.dubp_cond.proofs.laws.inputs_have_one_text.Goals as goal

pub returns : goal.returns
returns c = one_text input_of input_text IsInput input_again
