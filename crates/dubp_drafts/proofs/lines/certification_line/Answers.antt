use Rattle.std.proofs.Common.{rules}
use Rattle.dubp_drafts.proofs.Signed.{certification_line_is}
use Rattle.dubp_drafts.proofs.lines.certification_line.Goals as goal

pub returns-clause-line : goal.returns-clause-line
returns-clause-line c =
    certification_line_is c.args.number c.args.stamp.now c.args.pair c.key_of-key.result c.key_of.result c.saturating_sub.result c.in_ok-sig.sig c.in_ok-document.document (rw c.from.ensures at c.key_of-key.ensures) (rw c.from-2.ensures at c.key_of.ensures) (search rules) c.in_ok-document.ensures.value c.in_ok-sig.ensures.sig
