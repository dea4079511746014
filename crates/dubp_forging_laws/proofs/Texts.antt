-- Bytes are the text of one block at most, and of one document.
use Rattle.std.proofs.Common.{◌≡◌, ◌∙◌, ℕ, List, sym, ap}
use Rattle.dubp_atoms.proofs.Numbers.{some_is}
use Rattle.dubp_block.specs.Text.{block_text}
use Rattle.dubp_block.specs.declared.block.Block.{Block}
use Rattle.dubp_block.proofs.Whole.{same_read, text_again}
use Rattle.dubp_docs.proofs.Documents.{doc_again, doc_of_text}
use Rattle.dubp_validity.specs.Rules.{IsTextOf}
use Rattle.dubp_forging.specs.OfPool.{Doc, IsRead}

pub one_block : (bytes : List ℕ) (b d : Block) → IsTextOf bytes b → IsTextOf bytes d → b ≡ d
one_block bytes b d p q =
    let same : block_text b ≡ block_text d = sym p.text ∙ q.text in
    same_read b d _ (text_again b p.is) (rw same (text_again d q.is))

pub one_document : (bytes : List ℕ) (d e : Doc) → IsRead bytes d → IsRead bytes e → d ≡ e
one_document bytes d e p q = some_is d e (sym (doc_again d p.is) ∙ ap doc_of_text (sym p.text ∙ q.text) ∙ doc_again e q.is)
