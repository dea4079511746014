use Rattle.std.proofs.Common.{◌^◌, ◌<◌, length, arith}
use Rattle.std.specs.Set.{unique_keys}
use Rattle.dubp_atoms.specs.Same.{same_text}
use Rattle.dubp_head.specs.Frames.{frame_issuers}
use Rattle.dubp_head.proofs.NextHeads.{doubled_median-below}
use Rattle.dubp_head.proofs.difficulties.handicap_in.Goals as goal

pub handicap-requires-clause-small : goal.handicap-requires-clause-small
handicap-requires-clause-small c =
    let few : length (frame_issuers c.args.heads.now.list) < 2 ^ 41 = omega arith in
    omega (arith, c.doubled_median.ensures, doubled_median-below (2 ^ 41) (frame_issuers c.args.heads.now.list) (unique_keys same_text (frame_issuers c.args.heads.now.list)) few)
