use Rattle.dubp_head.proofs.SameRules.{heads_follow}
use Rattle.dubp_head.proofs.laws.heads_follow.Goals as goal

pub returns : goal.returns
returns c = heads_follow
