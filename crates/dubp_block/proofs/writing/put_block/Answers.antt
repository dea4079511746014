use Rattle.std.proofs.Common.{[]}
use Rattle.dubp_block.specs.Text.{block_text}
use Rattle.dubp_block.proofs.Added.{lines_then}
use Rattle.dubp_block.proofs.writing.put_block.Goals as goal

pub returns : goal.returns
unfolding block_text
returns c = (lines_then c.in_ok-add_inner.ensures c.in_ok-add_closing.ensures).added.goes_on [] c.new-text.ensures.items
