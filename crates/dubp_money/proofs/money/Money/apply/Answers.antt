use Rattle.std.proofs.Common.{map, ap, ◌∙◌}
use Rattle.dubp_docs.specs.Hashes.{hashes_of}
use Rattle.dubp_docs.specs.declared.hashing.TxHashes.{TxHashes}
use Rattle.dubp_money.proofs.Hashes.{whole_hashes-all}
use Rattle.dubp_money.proofs.money.Money.apply.Goals as goal

pub apply_hashed-requires-clause-hashes : goal.apply_hashed-requires-clause-hashes
apply_hashed-requires-clause-hashes g c =
    let block = c.args.block.now in
    ap (map (λ (h : TxHashes). h.whole)) (c.as_slice-2.ensures.value ∙ c.in_ok-hashes.ensures ∙ ap (map (hashes_of block.currency)) c.as_slice.ensures) ∙ whole_hashes-all block.currency block.transactions
