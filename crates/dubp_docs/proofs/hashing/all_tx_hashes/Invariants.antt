use Rattle.std.proofs.Common.{◌≡◌, map, take}
use Rattle.dubp_docs.specs.Hashes.{hashes_of}
use Rattle.dubp_docs.proofs.hashing.all_tx_hashes.Given as goal

abbrev pub invariant-loop-tx : goal.invariant-loop-tx
invariant-loop-tx l = l.hashes.items ≡ map (hashes_of l.currency) (take l.tx-index l.txs)
