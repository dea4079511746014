use Rattle.dubp_undo.proofs.Turned.{pushed, counted}
use Rattle.dubp_undo.proofs.found.FoundTables.mark.Goals as goal

pub returns-clause-kept : goal.returns-clause-kept
returns-clause-kept g c = pushed _ _ _ _ _ 0 c.mark.ensures.first c.in_ok-mark.ensures.past

pub returns-clause-count : goal.returns-clause-count
returns-clause-count g c = counted _ _ _ _ 0 c.in_ok-mark.ensures.past
