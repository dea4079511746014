use Rattle.std.proofs.Common.{ap, ◌∙◌}
use Rattle.dubp_head.specs.HeadsStates.{HeadsState}
use Rattle.dubp_head.specs.LastBlocks.{last_place}
use Rattle.dubp_head.proofs.KeptHeads.{issuers_of}
use Rattle.dubp_head.proofs.heads.Heads.last_place.Goals as goal

pub returns : goal.returns
returns c =
    c.last_of.ensures ∙ c.self.invariant.issuers.last c.args.key.now ∙ ap (λ (v : HeadsState). last_place (issuers_of v.list) c.args.key.now) c.self.view_is
