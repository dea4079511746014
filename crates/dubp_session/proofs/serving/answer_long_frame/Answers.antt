use Rattle.dubp_session.proofs.Items.{long_frame_turn}
use Rattle.dubp_session.proofs.serving.answer_long_frame.Goals as goal

pub returns-then-last-eq10 : goal.returns-then-last-eq10
returns-then-last-eq10 g c = λ head payload h long. long_frame_turn c.args.node.now c.laws.ensures.failures head payload _ c.args.last c.if-last-eq10.true h long c.put_refused.ensures
