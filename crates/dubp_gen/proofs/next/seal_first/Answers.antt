use Rattle.dubp_gen.proofs.Sealing.{no_first}
use Rattle.dubp_gen.proofs.next.seal_first.Goals as goal

pub returns-in-Err-clause-ended : goal.returns-in-Err-clause-ended
returns-in-Err-clause-ended g c =
    let found = c.unsealed.ensures c.args.draft 0 c.in-Err.ensures.sealed in
    no_first c.args.ledger.now.chain c.args.draft c.len.result c.unsealed.result c.requires.empty c.len.ensures found.0 found.1
