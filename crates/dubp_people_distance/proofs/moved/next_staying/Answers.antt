use Rattle.std.proofs.Common.{◌∙◌, sym, arith}
use Rattle.dubp_people_distance.proofs.Staying.{passing_starts, passing_goes_on, passing_finds, passing_finds_none, passing_ends}
use Rattle.dubp_people_distance.proofs.moved.next_staying.Goals as goal

pub loop-turn-init : goal.loop-turn-init
loop-turn-init g c = λ chain b shown who. passing_starts chain b c.args.left.now.keys c.args.after

pub returns-in_default : goal.returns-in_default
returns-in_default g c = λ chain b shown who.
    passing_finds_none chain b c.args.left.now.keys c.args.after who c.loop-turn.after c.loop-turn.turn (c.loop-turn.invariant chain b shown who) (c.in_default.ensures chain b shown)

pub returns-then-not-contains : goal.returns-then-not-contains
returns-then-not-contains g c = λ chain b shown who.
    passing_finds chain b c.args.left.now.keys c.args.after who c.loop-turn.after c.loop-turn.turn (c.loop-turn.invariant chain b shown who) c.in-Some.key (c.in-Some.ensures chain b shown) (sym c.contains.ensures ∙ c.if-not-contains.true)

pub loop-turn-preserved : goal.loop-turn-preserved
loop-turn-preserved g c = λ chain b shown who.
    passing_goes_on chain b c.args.left.now.keys c.args.after who c.loop-turn.after c.loop-turn.turn (c.loop-turn.invariant chain b shown who) c.in-Some.key (c.in-Some.ensures chain b shown) (sym c.contains.ensures ∙ c.if-not-contains.false)

pub returns : goal.returns
returns g c = λ chain b shown who.
    passing_ends chain b c.args.left.now.keys c.args.after who c.loop-turn.after c.loop-turn.turn (c.loop-turn.invariant chain b shown who) (omega (arith, c.len-turn-end.ensures.len)) c.next_before-2.result (c.next_before-2.ensures chain b shown)
