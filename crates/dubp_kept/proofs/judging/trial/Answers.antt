use Rattle.std.proofs.Common.{None, Some, subst}
use Rattle.dubp_kept.specs.OfLocal.{Unsigned}
use Rattle.dubp_kept.specs.Judged.{JudgedAsked}
use Rattle.dubp_kept.proofs.Asking.{unsigned_first}
use Rattle.dubp_kept.proofs.judging.trial.Goals as goal

pub returns-in-Breaks : goal.returns-in-Breaks
returns-in-Breaks g c =
    let v = c.args.verdicts.now in
    let b = c.args.block.now in
    let j = c.in_ok-judgement.judgement in
    let judged = subst (λ chain. JudgedAsked Unsigned v chain b j) c.blocks-2.ensures c.in_ok-judgement.ensures in
    unsigned_first v c.args.kept.now.chain b c.requires.short (Some c.in-Breaks.rule) (subst (JudgedAsked Unsigned v c.args.kept.now.chain b) c.in-Breaks.is judged)

pub returns-in-Keeps : goal.returns-in-Keeps
returns-in-Keeps g c =
    let v = c.args.verdicts.now in
    let b = c.args.block.now in
    let j = c.in_ok-judgement.judgement in
    let judged = subst (λ chain. JudgedAsked Unsigned v chain b j) c.blocks-2.ensures c.in_ok-judgement.ensures in
    unsigned_first v c.args.kept.now.chain b c.requires.short None (subst (JudgedAsked Unsigned v c.args.kept.now.chain b) c.in-Keeps.is judged).0
