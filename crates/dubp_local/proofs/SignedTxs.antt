-- A transaction is signed by all where its signatures have verdicts over the hash at its place.
use Rattle.std.proofs.Common.{◌≡◌, ℕ, ◌<◌, ◌+◌, List, length, take, get_or, ap, ◌∙◌, sym, subst}
use Rattle.std.specs.List.{AllByRecursion}
use Rattle.std.proofs.lemmas.List.{get_or-map}
use Rattle.std.proofs.lemmas.List.Elements.{All-from_recursion}
use Rattle.dubp_atoms.specs.Hashing.{hash_of}
use Rattle.dubp_cond.specs.declared.tx.Tx.{Tx}
use Rattle.dubp_docs.specs.Spelling.{signed_tx}
use Rattle.dubp_docs.specs.declared.hashing.TxHashes.{TxHashes}
use Rattle.dubp_block.specs.declared.block.Block.{Block}
use Rattle.dubp_verdict.specs.Verdicts.{Verdicts}
use Rattle.dubp_validity.specs.LocalRules.{IsSignedByAll, TransactionsAreSigned}
use Rattle.dubp_docs.specs.Hashes.{hashes_of}
use Rattle.dubp_local.specs.Local.{all_hashes}
use Rattle.dubp_local.specs.Parts.{IsSignedOver}
use Rattle.dubp_local.proofs.Every.{every_more}

-- the transaction stands at this place of the block, whose transactions and their hashes these are
pub record StandsAt (b : Block) (txs : List Tx) (hashes : List TxHashes) (i : ℕ) (tx : Tx) : Type 0 where
  pub all : hashes ≡ all_hashes b
  pub same : txs ≡ b.transactions
  pub below : i < length txs
  pub is : tx ≡ get_or txs i tx

module _ (v : Verdicts) (b : Block) (hashes : List TxHashes) (i : ℕ) (tx : Tx) (h : TxHashes) where
  hash_at : hashes ≡ all_hashes b → i < length b.transactions → tx ≡ get_or b.transactions i tx → (get_or hashes i h).signed ≡ hash_of (signed_tx b.currency tx)
  hash_at all below is =
      let found : get_or hashes i h ≡ hashes_of b.currency tx =
      ap (λ l. get_or l i h) all ∙ get_or-map (hashes_of b.currency) b.transactions i tx h below ∙ ap (hashes_of b.currency) (sym is) in
      ap (λ (x : TxHashes). x.signed) found

  pub signed_more : (txs : List Tx) → StandsAt b txs hashes i tx → AllByRecursion (IsSignedByAll v b.currency) (take i b.transactions) → IsSignedOver v (get_or hashes i h).signed tx → AllByRecursion (IsSignedByAll v b.currency) (take (i + 1) b.transactions)
  signed_more txs at so_far signed =
      let below : i < length b.transactions = subst (λ l. i < length l) at.same at.below in
      let is : tx ≡ get_or b.transactions i tx = subst (λ l. tx ≡ get_or l i tx) at.same at.is in
      let here : IsSignedByAll v b.currency tx = subst (λ s. IsSignedOver v s tx) (hash_at at.all below is) signed in
      every_more (IsSignedByAll v b.currency) b.transactions i tx below so_far (subst (IsSignedByAll v b.currency) is here)

  pub signed_here : (txs : List Tx) → StandsAt b txs hashes i tx → TransactionsAreSigned v b → IsSignedOver v (get_or hashes i h).signed tx
  signed_here txs at all =
      let below : i < length b.transactions = subst (λ l. i < length l) at.same at.below in
      let is : tx ≡ get_or b.transactions i tx = subst (λ l. tx ≡ get_or l i tx) at.same at.is in
      let found : IsSignedByAll v b.currency (get_or b.transactions i tx) = All-from_recursion (IsSignedByAll v b.currency) b.transactions all i tx below in
      subst (λ s. IsSignedOver v s tx) (sym (hash_at at.all below is)) (subst (IsSignedByAll v b.currency) (sym is) found)
