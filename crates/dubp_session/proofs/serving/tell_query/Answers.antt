use Rattle.std.proofs.Common.{[], refl}
use Rattle.dubp_replay.specs.OneLine.{query_of}
use Rattle.dubp_replay.specs.declared.command.Command.TheVariants.{Ask}
use Rattle.dubp_session.proofs.Items.{line_turn}
use Rattle.dubp_session.proofs.serving.tell_query.Goals as goal

pub returns-in-Some-clause-told : goal.returns-in-Some-clause-told
returns-in-Some-clause-told g c = λ told whole.
    let found = c.in-Some.ensures.found in
    line_turn _ _ c.args.text.now _ [] (Ask (query_of c.in-Some.asked)) whole c.requires.fits (record { is = found.0; text = found.1 }) refl (c.tell.ensures [])
