use Rattle.dubp_replay.specs.OfForging.{Forging}
use Rattle.dubp_forge.proofs.Told.{told_block, told_refusal}
use Rattle.dubp_forge.proofs.answering.forge_answer.Goals as goal

pub block_answer-requires : goal.block_answer-requires
block_answer-requires g c = c.in-Ok.ensures.1

pub returns-in-Ok : goal.returns-in-Ok
returns-in-Ok g c =
    let f : Forging = record { verdicts = c.args.verdicts.now; chain = c.args.ledger.now.chain; issuer = c.args.key; time = c.args.time; pool = c.args.pool.now } in
    told_block f c.in-Ok.forged c.block_answer.result c.in-Ok.ensures c.block_answer.ensures

pub returns-in-Err : goal.returns-in-Err
returns-in-Err g c =
    let f : Forging = record { verdicts = c.args.verdicts.now; chain = c.args.ledger.now.chain; issuer = c.args.key; time = c.args.time; pool = c.args.pool.now } in
    told_refusal f c.in-Err.refusal c.refusal_answer.result c.in-Err.ensures c.refusal_answer.ensures
