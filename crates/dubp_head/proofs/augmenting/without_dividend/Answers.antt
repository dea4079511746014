use Rattle.std.proofs.Common.{arith}
use Rattle.dubp_atoms.specs.Same.{same_text}
use Rattle.std.proofs.lemmas.Map.Made.{distinct_count-le}
use Rattle.dubp_head.specs.Frames.{frame_issuers}
use Rattle.dubp_head.proofs.NextHeads.{frame_issuers-le}
use Rattle.dubp_head.proofs.augmenting.without_dividend.Goals as goal

pub next_var-requires-clause-few_after : goal.next_var-requires-clause-few_after
next_var-requires-clause-few_after c =
    omega (arith, c.issuers_of_frame-issuers.ensures, distinct_count-le same_text (frame_issuers c.args.heads.now.list), frame_issuers-le c.args.heads.now.list)
