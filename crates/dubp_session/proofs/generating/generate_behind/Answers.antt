use Rattle.dubp_gen.specs.Making.{made_of}
use Rattle.dubp_session.proofs.generating.generate_behind.Goals as goal

pub returns-in-Ok-give-clause-ends : goal.returns-in-Ok-give-clause-ends
returns-in-Ok-give-clause-ends g c = λ left.
    c.show.ensures.ends c.args.node.now left (record { made = made_of c.in-Ok.chain; is = c.in-Ok.ensures.made; given = c.in-Ok-give.ensures.all })

pub returns-in-Err-clause-ends : goal.returns-in-Err-clause-ends
returns-in-Err-clause-ends g c = λ left. c.write_end.ensures.ends c.args.n c.args.start c.args.node.now left c.in-Err.ensures.ended
