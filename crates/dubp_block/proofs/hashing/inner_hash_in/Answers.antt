use Rattle.std.proofs.Common.{ap, ◌∙◌, refl}
use Rattle.dubp_atoms.specs.Hashing.{hash_of}
use Rattle.dubp_lines.specs.Lines.{unlines}
use Rattle.dubp_block.specs.Parts.{closing_of}
use Rattle.dubp_block.proofs.Front.{closing_within, front_is}
use Rattle.dubp_block.proofs.hashing.inner_hash_in.Goals as goal

pub slice_bounds-of-count : goal.slice_bounds-of-count
slice_bounds-of-count c =
    rw c.closing_len.ensures (closing_within c.args.block.now c.args.text.now (unlines (closing_of c.args.block.now)) c.requires refl)

pub returns : goal.returns
returns c =
    c.of.ensures ∙ ap hash_of (rw c.closing_len.ensures (front_is c.args.block.now c.args.text.now (unlines (closing_of c.args.block.now)) c.requires refl))
