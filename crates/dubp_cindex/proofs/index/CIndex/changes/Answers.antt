use Rattle.std.specs.FinMap.{empty}
use Rattle.dubp_undo.specs.States.{newest}
use Rattle.dubp_cindex.proofs.Puts.{are_changes}
use Rattle.dubp_cindex.proofs.index.CIndex.changes.Goals as goal

pub returns-clause-are : goal.returns-clause-are
returns-clause-are c = λ s a.
    are_changes (newest empty s) c.args.from.now c.args.to.now c.args.row c.row-before.result c.pair_change-pair.result c.received.result c.in_ok-received.received c.in_ok-issuer.issuer (c.row-before.ensures s a) (c.received.ensures s a)
    c.pair_change-pair.ensures.is c.pair_change-pair.ensures.stays c.in_ok-received.ensures.is c.in_ok-received.ensures.stays (c.in_ok-issuer.ensures s a (c.row-before.ensures s a))
