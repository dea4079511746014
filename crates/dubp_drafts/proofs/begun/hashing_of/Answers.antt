use Rattle.std.proofs.Common.{[]}
use Rattle.dubp_atoms.proofs.Adding.{adds_then}
use Rattle.dubp_drafts.proofs.begun.hashing_of.Goals as goal

pub returns : goal.returns
returns c =
    rw (← c.as_bytes.ensures.text)
    ((adds_then c.in-Ok.ensures.added (adds_then c.in-Ok-put.ensures.added (adds_then c.in-Ok-put-2.ensures.added c.in-Ok-put-3.ensures.added))).goes_on [] c.new-hashing.ensures)
