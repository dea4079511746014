-- The hashes by which the transactions of a block are named, from those that are made of them.
use Rattle.std.proofs.Common.{◌≡◌, List, [], ◌∷◌, map, refl, ap}
use Rattle.dubp_atoms.specs.Same.{Text}
use Rattle.dubp_cond.specs.declared.tx.Tx.{Tx}
use Rattle.dubp_docs.specs.Spelling.{tx_hash}
use Rattle.dubp_docs.specs.Hashes.{hashes_of}

pub whole_hashes-all : (currency : Text) (txs : List Tx) → map (λ h. h.whole) (map (hashes_of currency) txs) ≡ map (tx_hash currency) txs
whole_hashes-all currency [] = refl
whole_hashes-all currency (tx ∷ txs) = ap (λ l. tx_hash currency tx ∷ l) (whole_hashes-all currency txs)
