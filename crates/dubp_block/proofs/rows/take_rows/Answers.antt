use Rattle.std.proofs.Common.{◌≡◌, ◌+◌, ◌-◌, suc, ap, sym, ◌∙◌, arith}
use Rattle.std.proofs.lemmas.Result.{err_from_is_err_and}
use Rattle.dubp_lines.specs.Taking.{line_at}
use Rattle.dubp_lines.specs.Readers.{rows}
use Rattle.dubp_lines.proofs.Loops.{behind, behind_more, behind_refused, rows_step, rows_refused}
use Rattle.dubp_block.proofs.Refusing.{refuses_on}
use Rattle.dubp_block.proofs.rows.take_rows.Goals as goal

pub returns-in_err-row : goal.returns-in_err-row
returns-in_err-row g c =
    let reads = g.R.ReadRow.reads in
    let left : c.args.count - c.loop.counter ≡ suc (c.args.count - (c.loop.counter + 1)) = omega arith in
    let p = err_from_is_err_and c.from_residual.result c.from_residual.ensures.1 in
    rw (p.1, p.2) (refuses_on _ (line_at reads c.loop.lines) (rows c.args.count reads c.args.lines.now)
    (λ n e. c.loop.invariant ∙ behind_refused c.loop.taken.items n _ (ap (λ k. rows k reads c.loop.lines) left ∙ rows_refused reads (c.args.count - (c.loop.counter + 1)) c.loop.lines n e))
    c.in_err-row.ensures)

pub loop-preserved : goal.loop-preserved
loop-preserved g c =
    let reads = g.R.ReadRow.reads in
    let left : c.args.count - c.loop.counter ≡ suc (c.args.count - (c.loop.counter + 1)) = omega arith in
    let more = rows (c.args.count - (c.loop.counter + 1)) reads c.take_row.new.lines in
    c.loop.invariant
    ∙ ap (behind c.loop.taken.items) (ap (λ k. rows k reads c.loop.lines) left ∙ rows_step reads (c.args.count - (c.loop.counter + 1)) c.loop.lines c.take_row.new.lines c.in_ok-row.row c.in_ok-row.ensures)
    ∙ behind_more c.loop.taken.items c.in_ok-row.row more
    ∙ ap (λ xs. behind xs more) (sym c.in_ok-push.ensures.appended)
