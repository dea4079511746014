use Rattle.std.proofs.Common.{inl, inr, subst, sym}
use Rattle.dubp_replay.specs.AnswerBytes.{answer_bytes}
use Rattle.dubp_replay.specs.Turns.{IsForgeAnswer}
use Rattle.dubp_turns.specs.Acting.{Forges}
use Rattle.dubp_turns.proofs.forging.forge_on.Goals as goal

pub returns-in-Ok : goal.returns-in-Ok
returns-in-Ok g c =
    let b = c.args.branches.now in
    let ledger = c.ledger.result.now in
    let answer = answer_bytes c.in-Ok.answer in
    subst (Forges b c.args.pool.now c.args.key c.args.time) (sym c.tell.ensures) (inl (
    subst (λ x. IsForgeAnswer (record { verdicts = b.verdicts; chain = x; issuer = c.args.key; time = c.args.time; pool = c.args.pool.now }) x answer) c.ledger.ensures.chain
    (subst (λ v. IsForgeAnswer (record { verdicts = v; chain = ledger.chain; issuer = c.args.key; time = c.args.time; pool = c.args.pool.now }) ledger.chain answer) c.verdicts.ensures c.in-Ok.ensures)
    ))

pub returns-in-Err : goal.returns-in-Err
returns-in-Err g c = inr c.put_no_memory.ensures
