use Rattle.std.proofs.Common.{Some, ap, sym, subst, ◌∙◌}
use Rattle.dubp_script.specs.Spelling.{Says}
use Rattle.dubp_replay.specs.Turns.{IsTimely}
use Rattle.dubp_session.proofs.Items.{frame_turn, framed_timely}
use Rattle.dubp_session.proofs.serving.answer_frame.Goals as goal

pub take_turn-requires : goal.take_turn-requires
take_turn-requires g c = record { timely = subst IsTimely (sym c.command.ensures.is) (framed_timely c.args.framed); empty = c.requires }

pub returns : goal.returns
returns g c = λ head says len.
    frame_turn _ _ head c.args.frame.now _ c.args.last c.command.result c.if-last-ne10.false (subst (Says head) (sym c.command.ensures.is) says) (c.command.ensures.frame ∙ ap Some len) c.take_turn.ensures
