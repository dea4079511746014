use Rattle.std.proofs.Common.{◌∙◌}
use Rattle.dubp_people_apply.proofs.EndedLines.{over_none, over_some}
use Rattle.dubp_people_apply.proofs.at_once.is_over.Goals as goal

pub returns-in-None : goal.returns-in-None
returns-in-None c =
    λ chain b k sound since long row. over_none chain b k c.args.row.now sound c.in-None.is row

pub returns-in-Some : goal.returns-in-Some
returns-in-Some c =
    λ chain b k sound since long row. c.is_reached.ensures ∙ over_some chain b k c.args.since c.args.lasting c.args.row.now c.in-Some.row c.later.result sound since long c.in-Some.is row c.later.ensures
