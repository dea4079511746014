use Rattle.std.proofs.Common.{ap, ◌∙◌}
use Rattle.dubp_atoms.specs.Hashing.{hash_of}
use Rattle.dubp_local.proofs.Sealed.{closing_text}
use Rattle.dubp_local.proofs.closing.end_closing.Goals as goal

pub returns : goal.returns
returns c =
    c.hash.ensures _ (c.in-Ok-put.ensures.added.goes_on _ (c.in-Ok.ensures.added.goes_on _ c.requires))
    ∙ ap hash_of (closing_text c.args.block.now c.as_bytes.result.now c.as_bytes.ensures.text)
