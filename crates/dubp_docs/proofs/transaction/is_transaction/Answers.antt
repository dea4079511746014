use Rattle.std.proofs.Common.{ap, ◌∙◌, is_some}
use Rattle.dubp_lines.specs.Lines.{Place}
use Rattle.dubp_docs.specs.Reading.{transaction_at, last}
use Rattle.dubp_docs.proofs.Passing.{is_passed, is_refused}
use Rattle.dubp_docs.proofs.transaction.is_transaction.Goals as goal

pub returns-in-Ok : goal.returns-in-Ok
returns-in-Ok c =
    c.is_done.ensures ∙ is_passed c.of-lines.result c.pass_transaction.new.lines c.in-Ok.field-0 c.in-Ok.ensures ∙ ap (λ (p : Place). is_some (last (transaction_at p))) c.of-lines.ensures

pub returns-in-Err : goal.returns-in-Err
returns-in-Err c =
    is_refused c.of-lines.result c.in-Err.field-0.left c.in-Err.ensures ∙ ap (λ (p : Place). is_some (last (transaction_at p))) c.of-lines.ensures
