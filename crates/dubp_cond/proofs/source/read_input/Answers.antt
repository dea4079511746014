use Rattle.dubp_cond.specs.Sources.{input_text, IsInput}
use Rattle.dubp_cond.specs.ReadingLines.{input_of}
use Rattle.dubp_cond.proofs.Exact.{is_found, is_only}
use Rattle.dubp_cond.proofs.Sources.{input_found, input_again}
use Rattle.dubp_cond.proofs.source.read_input.Goals as goal

pub returns-clause-found : goal.returns-clause-found
returns-clause-found c = is_found input_of input_text IsInput input_found c.args.line.now c.read_parts.result c.read_parts.ensures

pub returns-clause-only : goal.returns-clause-only
returns-clause-only c = is_only input_of input_text IsInput input_again c.args.line.now c.read_parts.result c.read_parts.ensures
