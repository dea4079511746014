use Rattle.std.proofs.Common.{arith}
use Rattle.dubp_moving.specs.Others.{same_others}
use Rattle.dubp_undo.proofs.Turned.{more, counts}
use Rattle.dubp_undo.proofs.found.Found.set.Goals as goal

pub returns-clause-others : goal.returns-clause-others
returns-clause-others g c =
    same_others _ _ (more _ _ _ _ c.in_ok-set.ensures.first c.in_ok-set.ensures.past) c.set.ensures.ahead c.set.ensures.root

pub returns-clause-count : goal.returns-clause-count
returns-clause-count g c = let most = counts _ _ _ _ c.in_ok-set.ensures.first c.in_ok-set.ensures.past in omega (arith, most, c.in_ok-set.ensures.step)
