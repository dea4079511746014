use Rattle.dubp_cond.proofs.Exact.{is_found_ok, is_only_ok, is_lacked}
use Rattle.dubp_docs.specs.Spelling.{doc_text, IsDoc}
use Rattle.dubp_docs.proofs.Documents.{doc_of_text, doc_found, doc_again}
use Rattle.dubp_docs.proofs.read.read_doc.Goals as goal

pub returns-clause-found : goal.returns-clause-found
returns-clause-found c = is_found_ok doc_of_text doc_text IsDoc doc_found c.args.text.now c.read_lines.result c.read_lines.ensures.exact

pub returns-clause-only : goal.returns-clause-only
returns-clause-only c = is_only_ok doc_of_text doc_text IsDoc doc_again c.args.text.now c.read_lines.result c.read_lines.ensures.exact

pub returns-clause-lacked : goal.returns-clause-lacked
returns-clause-lacked c = is_lacked doc_of_text doc_text IsDoc doc_found c.args.text.now c.read_lines.result c.read_lines.ensures.lacked
