use Rattle.std.proofs.Common.{ap, arith, length, subst, IfOk}
use Rattle.dubp_forging.specs.Drafts.{FirstBad}
use Rattle.dubp_forge.proofs.Trying.{too_long}
use Rattle.dubp_forge.proofs.asking.Forge.first_bad.Goals as goal

pub returns-then-len-gt-LONGEST_BLOCK : goal.returns-then-len-gt-LONGEST_BLOCK
returns-then-len-gt-LONGEST_BLOCK g c =
    let text = c.in_ok-text.text in
    too_long c.args.self.now.verdicts c.args.self.now.chain c.args.block.now
    (omega (arith, text.ok.0, ap length c.in_ok-text.ensures, c.len.ensures, c.if-len-gt-LONGEST_BLOCK.true))

pub returns : goal.returns
returns g c = subst (λ f. IfOk c.trial_hashed.result (FirstBad f.verdicts f.chain c.args.block.now)) c.self.view_is c.trial_hashed.ensures
