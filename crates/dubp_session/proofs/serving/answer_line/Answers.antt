use Rattle.std.proofs.Common.{arith}
use Rattle.dubp_session.proofs.Items.{line_turn, timely}
use Rattle.dubp_session.proofs.serving.answer_line.Goals as goal

pub take_turn-requires : goal.take_turn-requires
take_turn-requires g c = record { timely = timely c.in-Some.command c.in-Some.ensures.found.0; empty = c.requires }

pub returns-in-Some : goal.returns-in-Some
returns-in-Some g c = λ whole.
    let found = c.in-Some.ensures.found in
    line_turn _ _ c.args.text.now _ c.as_slice.result.now c.in-Some.command whole (omega arith) (record { is = found.0; text = found.1 }) c.as_slice.ensures c.take_turn.ensures
