use Rattle.std.proofs.Common.{◌∷◌, ◌∙◌}
use Rattle.dubp_people_distance.proofs.Passing.{joiners_fail, actives_say}
use Rattle.dubp_people_distance.proofs.rule.both_pass.Goals as goal

pub returns-then-not-joiners : goal.returns-then-not-joiners
returns-then-not-joiners g c = λ chain shown is among.
    let b = c.args.block.now in
    joiners_fail chain b c.in_ok-joiners.joiners c.as_slice-lines.result.now c.as_slice-lines.ensures (c.in_ok-joiners.ensures.pass (b ∷ chain) shown is (c.in_ok-sought.ensures.keys ∙ among)) c.if-not-joiners.true

pub returns : goal.returns
returns g c = λ chain shown is among.
    let b = c.args.block.now in
    actives_say chain b c.in_ok-joiners.joiners c.in_ok-actives.actives c.as_slice-lines.result.now c.as_slice-lines-2.result.now c.as_slice-lines.ensures c.as_slice-lines-2.ensures
    (c.in_ok-joiners.ensures.pass (b ∷ chain) shown is (c.in_ok-sought.ensures.keys ∙ among)) (c.in_ok-actives.ensures.pass (b ∷ chain) shown is (c.in_ok-sought.ensures.keys ∙ among)) c.if-not-joiners.false
