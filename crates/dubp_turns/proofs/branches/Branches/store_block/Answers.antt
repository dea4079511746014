use Rattle.std.proofs.Common.{ap, subst}
use Rattle.dubp_forks.specs.Offers.{Offered}
use Rattle.dubp_replay.specs.Turns.{Branches}
use Rattle.dubp_turns.proofs.branches.Branches.store_block.Goals as goal

pub returns-clause-offered : goal.returns-clause-offered
returns-clause-offered g c = subst (λ (x : Branches). Offered x c.args.frame.now c.offer.result c.offer.new.self) c.self.view_is c.offer.ensures.offered

pub returns-clause-same : goal.returns-clause-same
returns-clause-same g c = ap (λ (x : Branches). record x { store = c.offer.new.self }) c.self.view_is
