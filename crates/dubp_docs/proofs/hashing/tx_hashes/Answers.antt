use Rattle.std.proofs.Common.{[]}
use Rattle.dubp_docs.specs.Spelling.{signed_text, doc_text, tx_hash}
use Rattle.dubp_docs.proofs.Added.{lines_then}
use Rattle.dubp_docs.proofs.hashing.tx_hashes.Goals as goal

pub returns-clause-signed : goal.returns-clause-signed
unfolding signed_text
returns-clause-signed c = c.hash-signed.ensures _ (c.copy.ensures _ (c.in-Ok.ensures.added.goes_on [] c.new-hashing.ensures))

pub returns-clause-whole : goal.returns-clause-whole
unfolding tx_hash doc_text
returns-clause-whole c = c.hash.ensures _ ((lines_then c.in-Ok.ensures c.in-Ok-add_signatures.ensures).added.goes_on [] c.new-hashing.ensures)
