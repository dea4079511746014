use Rattle.std.proofs.Common.{ap, ◌∙◌}
use Rattle.dubp_lines.specs.Lines.{split}
use Rattle.dubp_block.specs.Text.{block_text}
use Rattle.dubp_block.specs.Reading.{block_of}
use Rattle.dubp_block.proofs.Whole.{text_again, same_read}
use Rattle.dubp_block.proofs.laws.blocks_have_one_text.Goals as goal

pub returns : goal.returns
returns c = λ b d is js e. same_read b d (block_of (split (block_text b))) (text_again b is) (ap (λ t. block_of (split t)) e ∙ text_again d js)
