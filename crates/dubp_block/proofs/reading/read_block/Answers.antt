use Rattle.std.proofs.Common.{sym, ap, subst, ◌∙◌}
use Rattle.dubp_lines.specs.Lines.{split}
use Rattle.dubp_block.specs.RefusedLine.{IsRefusedLine}
use Rattle.dubp_block.specs.Reading.{block_of}
use Rattle.dubp_block.proofs.Whole.{text_found, text_again, text_refused, same_read, no_error}
use Rattle.dubp_block.proofs.reading.read_block.Goals as goal

pub returns-in-Ok-clause-found : goal.returns-in-Ok-clause-found
returns-in-Ok-clause-found c = text_found c.args.text.now c.in-Ok.block c.in-Ok.ensures

pub returns-in-Ok-clause-only : goal.returns-in-Ok-clause-only
returns-in-Ok-clause-only c = λ b is e. same_read c.in-Ok.block b (block_of (split c.args.text.now)) c.in-Ok.ensures (ap (λ t. block_of (split t)) e ∙ text_again b is)

pub returns-in-Err-Left-clause-only : goal.returns-in-Err-Left-clause-only
returns-in-Err-Left-clause-only c = λ b is e. absurd (no_error b c.in-Err-Left.left (block_of (split c.args.text.now)) (ap (λ t. block_of (split t)) e ∙ text_again b is) (rw c.in-Err-Left.field-0-is at c.in-Err-Left.ensures))

pub returns-in-Err-Left-clause-refused : goal.returns-in-Err-Left-clause-refused
returns-in-Err-Left-clause-refused c = subst (IsRefusedLine c.args.text.now) (sym c.line_number.ensures) (text_refused c.args.text.now c.in-Err-Left.left (rw c.in-Err-Left.field-0-is at c.in-Err-Left.ensures))
