use Rattle.std.proofs.Common.{sym, ◌∙◌, refl, ◌≡◌, ap, length, drop, length-drop, ◌-◌, arith}
use Rattle.dubp_entries.proofs.Serves.{owed_nothing, owed_got, owed_broke, rest_more}
use Rattle.dubp_session.proofs.serving.serve.Goals as goal

pub commands-init : goal.commands-init
commands-init g c =
    let none : 0 ≡ length c.args.hand.now - length c.args.hand.now = omega arith in
    record {
      same = refl;
      is_rest = ap (λ n. drop n c.args.hand.now) none;
      shorter = omega arith;
      stands = c.requires.stands;
      replies = c.requires.settled.1;
      so_far = λ bytes s. owed_nothing _ _ bytes _ _ _ c.requires.settled.0 s;
    }

pub take_turn-requires-clause-shown : goal.take_turn-requires-clause-shown
take_turn-requires-clause-shown g c =
    let begun = c.commands.invariant.stands in
    let one = c.in-Got.ensures.2 begun.0 begun.1 in
    (one.command, one.whole, one.shows)

pub returns-in-Err-take_turn-clause-broke : goal.returns-in-Err-take_turn-clause-broke
returns-in-Err-take_turn-clause-broke g c = λ bytes s.
    owed_broke _ _ _ _ _ _ bytes _ _ _ _ _ (c.commands.invariant.so_far bytes s) c.in-Got.ensures c.in-Err-take_turn.ensures.broke

pub commands-preserved : goal.commands-preserved
commands-preserved g c = record {
  same = c.commands.invariant.same ∙ sym c.in_default-take_turn.ensures.cause.same;
  is_rest = rest_more _ _ _ c.in-Got.used c.commands.invariant.is_rest c.commands.invariant.shorter c.in-Got.ensures.1 c.skip-rest-in-Got.ensures;
  shorter = omega (arith, ap length c.skip-rest-in-Got.ensures, length-drop c.in-Got.used c.commands.rest.now);
  stands = (_, refl);
  replies = c.in_default-take_turn.ensures.replies;
  so_far = λ bytes s. owed_got _ _ _ _ _ _ bytes _ _ _ _ _ _ _ (c.commands.invariant.so_far bytes s) c.in-Got.ensures c.in_default-take_turn.ensures.owed c.skip-rest-in-Got.ensures;
}
