use Rattle.std.proofs.Common.{Err, refl, subst}
use Rattle.dubp_block.specs.Text.{block_text}
use Rattle.dubp_forks.specs.OfLedger.{SubmitRefusal}
use Rattle.dubp_turns.specs.Deciding.{IsDecided}
use Rattle.dubp_turns.proofs.Decisions.{decision_raw}
use Rattle.dubp_turns.proofs.branches.Branches.give_block.Goals as goal

pub returns-in-Ok-clause-given : goal.returns-in-Ok-clause-given
returns-in-Ok-clause-given g c =
    let b = c.args.block in
    (_, decision_raw _ _ (block_text b) _ b (record { is = c.requires.text; text = refl }) (λ d t. c.blocks_have_one_text.ensures b d c.requires.text t.is t.text) c.requires.short c.in-Ok.ensures)

pub returns-in-Err-Refused-clause-given : goal.returns-in-Err-Refused-clause-given
returns-in-Err-Refused-clause-given g c =
    let b = c.args.block in
    let said = subst (λ (r : SubmitRefusal). IsDecided c.args.self.now b (Err r) c.decide.new.self) c.in-Err-Refused.field-0-is c.in-Err-Refused.ensures in
    (_, decision_raw _ _ (block_text b) _ b (record { is = c.requires.text; text = refl }) (λ d t. c.blocks_have_one_text.ensures b d c.requires.text t.is t.text) c.requires.short said)
