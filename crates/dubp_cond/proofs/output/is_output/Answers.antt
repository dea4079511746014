use Rattle.dubp_cond.specs.Outputs.{output_text, IsOutput}
use Rattle.dubp_cond.specs.ReadingLines.{output_of}
use Rattle.dubp_cond.proofs.Outputs.{output_found, output_again}
use Rattle.dubp_cond.proofs.Exact.{is_told}
use Rattle.dubp_cond.proofs.output.is_output.Goals as goal

pub returns-clause-text : goal.returns-clause-text
returns-clause-text c = is_told output_of output_text IsOutput output_found output_again c.args.line.now c.pass_parts.result c.pass_parts.ensures
