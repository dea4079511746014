use Rattle.std.proofs.Common.{◌∙◌}
use Rattle.dubp_resolve.specs.Known.{seen}
use Rattle.dubp_resolve.proofs.Paths.{candidate_at, height_low, height_here}
use Rattle.dubp_resolve.proofs.choosing.is_candidate.Goals as goal

pub is_candidate_on-requires-clause-below : goal.is_candidate_on-requires-clause-below
is_candidate_on-requires-clause-below c =
    let e = height_here (seen c.args.view.now) c.args.block.now c.requires.found c.in-Some-Some.field-0.now (c.in-Some-Some.ensures.value ∙ c.requires.heights c.args.block.now.stamp) in
    height_low (seen c.args.view.now) c.requires.offers.numbered c.args.block.now c.requires.found c.in-Some-Some.height (cc e)

pub returns-in-Some-Some : goal.returns-in-Some-Some
returns-in-Some-Some c =
    let e = height_here (seen c.args.view.now) c.args.block.now c.requires.found c.in-Some-Some.field-0.now (c.in-Some-Some.ensures.value ∙ c.requires.heights c.args.block.now.stamp) in
    c.is_candidate_on.ensures ∙ candidate_at (seen c.args.view.now) c.requires.offers.numbered c.args.block.now c.in-Some-Some.height (cc e)
