use Rattle.dubp_entries.proofs.Gatherings.{on_ok_then, on_err_then, turn_written, turn_broke}
use Rattle.dubp_session.proofs.serving.take_turn.Goals as goal

pub returns-clause-owed : goal.returns-clause-owed
returns-clause-owed g c =
    on_ok_then c.write_turn.result _ _ (turn_written _ _ _ _ _ _ _ c.args.item c.in_default.ensures.written c.in_default.ensures.nothing) c.write_turn.ensures.written

pub returns-clause-broke : goal.returns-clause-broke
returns-clause-broke g c =
    on_err_then c.write_turn.result _ _ (turn_broke _ _ _ _ _ _ c.args.item c.in_default.ensures.written) c.write_turn.ensures.broke
