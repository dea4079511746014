use Rattle.dubp_block.proofs.Added.{lines_then, lines_are}
use Rattle.dubp_block.proofs.compact.add_transaction.Goals as goal

pub returns : goal.returns
returns g c =
    lines_then c.in_ok-add_first_line.ensures (lines_then c.in_ok-add_value.ensures (lines_then (lines_are c.args.tx.now.issuers c.in_ok-add_values.ensures)
    (lines_then c.in_ok-add_values-2.ensures (lines_then c.in_ok-add_values-3.ensures (lines_then c.in_ok-add_values-4.ensures
    (lines_then c.in_ok-add_comment.ensures (lines_are c.args.tx.now.sigs c.in_ok-add_values-5.ensures)))))))
