use Rattle.dubp_gen.proofs.next.seal_for.Goals as goal

pub returns-in-Err-clause-ended : goal.returns-in-Err-clause-ended
returns-in-Err-clause-ended c = c.unsealed.ensures c.args.block c.args.difficulty c.in-Err.ensures.sealed
