use Rattle.dubp_cond.specs.Outputs.{output_text, IsOutput}
use Rattle.dubp_cond.specs.ReadingLines.{output_of}
use Rattle.dubp_cond.proofs.Exact.{one_text}
use Rattle.dubp_cond.proofs.Outputs.{output_again}
use Rattle.dubp_cond.proofs.laws.outputs_have_one_text.Goals as goal

pub returns : goal.returns
returns c = one_text output_of output_text IsOutput output_again
