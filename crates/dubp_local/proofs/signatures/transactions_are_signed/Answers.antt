use Rattle.dubp_local.proofs.SignedTxs.{StandsAt, signed_more, signed_here}
use Rattle.dubp_local.proofs.signatures.transactions_are_signed.Goals as goal

pub returns-then-not-is_signed_by_all : goal.returns-then-not-is_signed_by_all
returns-then-not-is_signed_by_all c =
    let at : StandsAt c.args.block.now c.as_slice-transactions.result.now c.args.hashes.now c.loop-i.i c.index-transactions-i.result = record { all = c.requires; same = c.as_slice-transactions.ensures; below = c.loop-i-test.true; is = c.index-transactions-i.is } in (
      λ answer. absurd (cc (answer)),
      λ all.
          let here = c.is_signed_by_all.ensures.1 (signed_here c.args.verdicts.now c.args.block.now c.args.hashes.now c.loop-i.i c.index-transactions-i.result c.index-hashes-i.result c.as_slice-transactions.result.now at all) in
          cc (here, c.if-not-is_signed_by_all.true),
    )

pub loop-i-preserved : goal.loop-i-preserved
loop-i-preserved c =
    let at : StandsAt c.args.block.now c.as_slice-transactions.result.now c.args.hashes.now c.loop-i.i c.index-transactions-i.result = record { all = c.requires; same = c.as_slice-transactions.ensures; below = c.loop-i-test.true; is = c.index-transactions-i.is } in
    signed_more c.args.verdicts.now c.args.block.now c.args.hashes.now c.loop-i.i c.index-transactions-i.result c.index-hashes-i.result c.as_slice-transactions.result.now at c.loop-i.invariant (c.is_signed_by_all.ensures.0 c.if-not-is_signed_by_all.false)
