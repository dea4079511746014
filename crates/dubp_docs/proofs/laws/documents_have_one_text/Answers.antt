use Rattle.dubp_cond.proofs.Exact.{one_text}
use Rattle.dubp_docs.specs.Spelling.{doc_text, IsDoc}
use Rattle.dubp_docs.proofs.Documents.{doc_of_text, doc_again}
use Rattle.dubp_docs.proofs.laws.documents_have_one_text.Goals as goal

pub returns : goal.returns
returns c = one_text doc_of_text doc_text IsDoc doc_again
