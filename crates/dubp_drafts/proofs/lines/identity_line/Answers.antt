use Rattle.dubp_drafts.proofs.Signed.{identity_line_is}
use Rattle.dubp_drafts.proofs.lines.identity_line.Goals as goal

pub returns-clause-line : goal.returns-clause-line
returns-clause-line c =
    identity_line_is c.args.stamp.now c.args.person c.key_of-key.result c.in_ok-sig.sig c.uid_of.result c.identity_document-document.result (rw c.from.ensures at c.key_of-key.ensures) c.identity_document-document.ensures.value c.in_ok-sig.ensures.sig (rw c.from-2.ensures at c.uid_of.ensures)
