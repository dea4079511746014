use Rattle.std.proofs.Common.{◌++◌, Some, map, ap, ◌∙◌}
use Rattle.std.proofs.lemmas.Result.{on_ok_weaker}
use Rattle.dubp_chain.specs.Money.{dividends_at}
use Rattle.dubp_validity.specs.Records.{input_of}
use Rattle.dubp_validity.specs.declared.record.Record.TheVariants.{Dividend}
use Rattle.dubp_kept.specs.declared.left_behind.LeftBehind.{LeftBehind}
use Rattle.dubp_rows.proofs.Joined.{records_put}
use Rattle.dubp_rows.proofs.rows.put_records.Goals as goal

pub returns-clause-appended : goal.returns-clause-appended
returns-clause-appended c =
    on_ok_weaker c.put_copies-2.result (λ put d chain at sound blocks head left.
    records_put chain c.args.block.now c.args.head.now c.args.left.now c.args.out.now.items c.put_lines.new.out.items c.put_copies.new.out.items c.put_transactions.new.out.items c.put_payments.new.out.items c.put_copies-2.new.out.items head left
    (c.in_ok-put_lines.ensures.appended d chain at sound)
    (c.in_ok-put_copies.ensures.appended ∙ ap (λ rows. c.put_lines.new.out.items ++ rows) c.as_slice.ensures)
    (c.in_ok-put_transactions.ensures.appended chain (c.as_slice-2.ensures ∙ ap (λ (l : LeftBehind). l.transactions) left))
    (c.in_ok-put_payments.ensures.appended ∙ ap (λ keys. c.put_transactions.new.out.items ++ map (λ s. Dividend (input_of s)) (dividends_at c.args.block.now.number (Some c.args.head.now) keys)) c.as_slice-3.ensures)
    (put ∙ ap (λ rows. c.put_payments.new.out.items ++ rows) c.as_slice-4.ensures)) c.put_copies-2.ensures.appended
