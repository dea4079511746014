use Rattle.dubp_entries.proofs.Serves.{finished_line, broke_line}
use Rattle.dubp_session.proofs.serving.finish_item.Goals as goal

pub returns-in-Err-clause-broke : goal.returns-in-Err-clause-broke
returns-in-Err-clause-broke g c =
    let w = c.in-Err.ensures.broke _ c.requires.whole c.requires.shows in
    broke_line _ _ _ _ c.args.hand.now w.0 c.requires.whole c.requires.some w.1 w.2

pub returns-in-Ok-clause-finished : goal.returns-in-Ok-clause-finished
returns-in-Ok-clause-finished g c =
    let w = c.in-Ok.ensures.written _ c.requires.whole c.requires.shows in
    finished_line _ _ _ _ c.args.hand.now w.0 c.requires.whole c.requires.some w.1 w.2
