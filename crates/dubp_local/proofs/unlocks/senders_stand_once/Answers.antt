use Rattle.std.proofs.Common.{◌∙◌, ap, sym}
use Rattle.dubp_atoms.specs.Same.{same_text}
use Rattle.dubp_validity.specs.OfChain.{each_once}
use Rattle.dubp_local.proofs.Checking.{rests_one_more}
use Rattle.dubp_local.proofs.unlocks.senders_stand_once.Goals as goal

pub loop-tx-preserved : goal.loop-tx-preserved
loop-tx-preserved c =
    rests_one_more _ _ _ c.tx-item.result c.loop-tx-test.true c.tx-item.is
    (sym (ap (each_once same_text) c.as_slice.ensures) ∙ sym c.in_ok-stand_once.ensures ∙ c.if-not-branch.false) c.loop-tx.invariant
