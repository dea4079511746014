use Rattle.std.proofs.Common.{subst}
use Rattle.dubp_kept.specs.OfLocal.{Signed}
use Rattle.dubp_kept.specs.Judged.{JudgedAsked}
use Rattle.dubp_kept.proofs.Asking.{signed_judged}
use Rattle.dubp_kept.proofs.judging.judge.Goals as goal

pub returns : goal.returns
returns g c =
    let v = c.args.verdicts.now in
    let b = c.args.block.now in
    let judgement = c.in_ok-judgement.judgement in
    signed_judged v c.args.kept.now.chain b judgement (subst (λ chain. JudgedAsked Signed v chain b judgement) c.blocks-2.ensures c.in_ok-judgement.ensures)
