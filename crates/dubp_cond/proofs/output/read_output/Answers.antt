use Rattle.dubp_cond.specs.Outputs.{output_text, IsOutput}
use Rattle.dubp_cond.specs.ReadingLines.{output_of}
use Rattle.dubp_cond.proofs.Outputs.{output_found, output_again}
use Rattle.dubp_cond.proofs.Exact.{is_found_ok, is_only_ok, is_lacked}
use Rattle.dubp_cond.proofs.output.read_output.Goals as goal

pub returns-clause-found : goal.returns-clause-found
returns-clause-found c = is_found_ok output_of output_text IsOutput output_found c.args.line.now c.read_parts.result c.read_parts.ensures.exact

pub returns-clause-only : goal.returns-clause-only
returns-clause-only c = is_only_ok output_of output_text IsOutput output_again c.args.line.now c.read_parts.result c.read_parts.ensures.exact

pub returns-clause-lacked : goal.returns-clause-lacked
returns-clause-lacked c = is_lacked output_of output_text IsOutput output_found c.args.line.now c.read_parts.result c.read_parts.ensures.lacked
