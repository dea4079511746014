-- Both sides compute.
use Rattle.std.proofs.Common.{refl}
use Rattle.std.specs.Fmt.{digits}
use Rattle.dubp_block.specs.Text.{block_text}
use Rattle.dubp_block.proofs.laws.example_has_this_text.Goals as goal

pub returns-clause-text : goal.returns-clause-text
unfolding block_text digits
returns-clause-text c = refl
