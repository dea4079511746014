use Rattle.std.proofs.Common.{◌∙◌, sym}
use Rattle.dubp_undo.proofs.Turned.{length_turned}
use Rattle.dubp_undo.proofs.found.FoundTables.depth.Goals as goal

pub returns : goal.returns
returns g c = c.depth.ensures.depth ∙ sym (length_turned _ _)
