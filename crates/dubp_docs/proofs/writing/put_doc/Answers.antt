use Rattle.std.proofs.Common.{[]}
use Rattle.dubp_docs.specs.Spelling.{doc_text}
use Rattle.dubp_docs.proofs.Added.{lines_then}
use Rattle.dubp_docs.proofs.writing.put_doc.Goals as goal

pub returns : goal.returns
unfolding doc_text
returns c = (lines_then c.in_ok-add_signed.ensures c.in_ok-add_behind.ensures).added.goes_on [] c.new-text.ensures.items
