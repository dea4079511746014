use Rattle.std.proofs.Common.{[]}
use Rattle.dubp_block.specs.Text.{inner_text}
use Rattle.dubp_block.proofs.hashing.inner_hash_of.Goals as goal

pub returns : goal.returns
unfolding inner_text
returns c = c.hash.ensures _ (c.in-Ok.ensures.added.goes_on [] c.new-hashing.ensures)
