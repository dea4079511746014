use Rattle.std.proofs.Common.{[]}
use Rattle.dubp_docs.specs.Spelling.{signed_text}
use Rattle.dubp_docs.proofs.hashing.identity_hash.Goals as goal

pub returns : goal.returns
unfolding signed_text
returns c = λ sig. c.hash.ensures _ (c.in-Ok.ensures.added.goes_on [] c.new-hashing.ensures)
