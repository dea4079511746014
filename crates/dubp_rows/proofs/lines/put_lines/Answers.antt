use Rattle.std.proofs.Common.{◌∷◌, ◌++◌, ap, ◌∙◌}
use Rattle.std.proofs.lemmas.Result.{on_ok_weaker}
use Rattle.dubp_rows.proofs.SameLines.{first_lines, later_lines}
use Rattle.dubp_rows.proofs.lines.put_lines.Goals as goal

pub returns-then-block-eq-FIRST_NUMBER-clause-appended : goal.returns-then-block-eq-FIRST_NUMBER-clause-appended
returns-then-block-eq-FIRST_NUMBER-clause-appended c =
    on_ok_weaker c.put_first_lines.result (λ put d chain at sound.
    put ∙ ap (λ lines. c.args.out.now.items ++ lines) (first_lines d chain c.args.block.now sound c.if-block-eq-FIRST_NUMBER.true)) c.put_first_lines.ensures.appended

pub returns-clause-appended : goal.returns-clause-appended
returns-clause-appended c =
    on_ok_weaker c.put_line_records.result (λ put d chain at sound.
    put (d ++ c.args.block.now ∷ chain) at sound ∙ ap (λ lines. c.args.out.now.items ++ lines) (later_lines d chain c.args.block.now sound c.if-block-eq-FIRST_NUMBER.false)) c.put_line_records.ensures.appended
