use Rattle.std.proofs.Common.{ap, ◌∙◌}
use Rattle.dubp_atoms.specs.Hashing.{hash_of}
use Rattle.dubp_block.proofs.hashing.block_hash.Goals as goal

pub returns : goal.returns
returns c = c.of.ensures ∙ ap hash_of (c.as_slice.ensures.value ∙ c.spell_closing.ensures)
