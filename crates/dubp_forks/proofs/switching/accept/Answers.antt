use Rattle.std.proofs.Common.{◌≡◌, ◌∙◌, Some, None, ap, sym, subst}
use Rattle.dubp_block.specs.Text.{stamp_of}
use Rattle.dubp_block.specs.declared.block.Block.{Block}
use Rattle.dubp_ledger.specs.OfKept.{with_block}
use Rattle.dubp_validity.specs.Rules.{FirstBroken}
use Rattle.dubp_forks.proofs.Keyed.{same_some}
use Rattle.dubp_forks.proofs.switching.accept.Goals as goal

pub returns-in-Ok-submit_read-clause-accepted : goal.returns-in-Ok-submit_read-clause-accepted
returns-in-Ok-submit_read-clause-accepted g c = λ b f.
    let same : c.in-Ok.read.block ≡ b = c.in-Ok.ensures.block ∙ same_some c.in-Some.stored.now b (c.in-Some.ensures.value ∙ f) in
    let a = c.in-Ok-submit_read.ensures.accepted in
    (subst (λ (x : Block). FirstBroken c.args.verdicts.now c.args.ledger.now.chain x None) same a.keeps, a.joins ∙ ap (λ (x : Block). with_block x c.args.ledger.now) same)

pub returns-in-Err-Refused-clause-refused : goal.returns-in-Err-Refused-clause-refused
returns-in-Err-Refused-clause-refused g c = λ b f.
    let h = rw c.in-Err-Refused.field-0-is at c.in-Err-Refused.ensures.refused in
    let same : c.in-Ok.read.block ≡ b = c.in-Ok.ensures.block ∙ same_some c.in-Some.stored.now b (c.in-Some.ensures.value ∙ f) in
    let own : c.in-Ok.read.block ≡ c.requires.0 = c.in-Ok.ensures.block ∙ same_some c.in-Some.stored.now c.requires.0 (c.in-Some.ensures.value ∙ c.requires.1) in
    (c.requires.2 ∙ ap stamp_of (sym own ∙ same), subst (λ (x : Block). FirstBroken c.args.verdicts.now c.args.ledger.now.chain x (Some c.in-Err-Refused.rule)) same h.0)
