use Rattle.std.proofs.Common.{inl, inr, arith}
use Rattle.dubp_session.proofs.Items.{bad_turn}
use Rattle.dubp_session.proofs.serving.tell_line.Goals as goal

pub returns-then-text-gt-LONGEST_LINE-clause-told : goal.returns-then-text-gt-LONGEST_LINE-clause-told
returns-then-text-gt-LONGEST_LINE-clause-told g c = λ told whole. bad_turn _ c.args.text.now _ (inl (omega (arith, c.if-text-gt-LONGEST_LINE.true))) c.put_bad.ensures

pub returns-clause-told : goal.returns-clause-told
returns-clause-told g c = λ told whole. bad_turn _ c.args.text.now _ (inr (c.begins_command.ensures.none c.if-begins_command.false)) c.put_bad-2.ensures
