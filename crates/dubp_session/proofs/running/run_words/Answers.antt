use Rattle.dubp_session.proofs.running.run_words.Goals as goal

pub returns-in-Gen-clause-generated_none : goal.returns-in-Gen-clause-generated_none
returns-in-Gen-clause-generated_none g c = λ n start asks status.
    let same = c.in-Gen.ensures.only n start asks in
    rw (same.0, same.1) (c.in-NoRoom.ensures.ends (g.S.Source.left c.args.source.now))

pub session_from-requires-clause-settled : goal.session_from-requires-clause-settled
session_from-requires-clause-settled g c = c.new-answers.ensures c.args.node.now
