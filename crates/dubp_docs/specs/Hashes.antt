-- The two hashes of a transaction. Protocol: documents.
use Rattle.dubp_atoms.specs.Same.{Text}
use Rattle.dubp_atoms.specs.Hashing.{hash_of}
use Rattle.dubp_cond.specs.declared.tx.Tx.{Tx}
use Rattle.dubp_docs.specs.Spelling.{signed_tx, tx_hash}
use Rattle.dubp_docs.specs.declared.hashing.TxHashes.{TxHashes}

-- of a transaction of this currency
abbrev pub hashes_of : Text → Tx → TxHashes
hashes_of currency tx = record { signed = hash_of (signed_tx currency tx); whole = tx_hash currency tx }
