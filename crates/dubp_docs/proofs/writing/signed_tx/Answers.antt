use Rattle.std.proofs.Common.{[]}
use Rattle.dubp_docs.specs.Spelling.{signed_text}
use Rattle.dubp_docs.proofs.writing.signed_tx.Goals as goal

pub returns : goal.returns
unfolding signed_text
returns c = c.in_ok-add_transaction.ensures.added.goes_on [] c.new-text.ensures.items
