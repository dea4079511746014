use Rattle.std.proofs.Common.{ap, sym, ◌∙◌, List}
use Rattle.std.proofs.Common.{ℕ}
use Rattle.std.proofs.lemmas.Result.{err_from_is_err_and}
use Rattle.dubp_lines.specs.Taking.{line_at, just, next_passes, same_line}
use Rattle.dubp_lines.specs.Readers.{entries}
use Rattle.dubp_lines.proofs.Readers.{goes, halts}
use Rattle.dubp_lines.proofs.Loops.{behind, behind_more, behind_all, behind_refused, line_shrinks, entries_step, entries_stop, entries_refused}
use Rattle.dubp_block.specs.Reading.{section_at}
use Rattle.dubp_block.proofs.Refusing.{refuses_on}
use Rattle.dubp_block.proofs.sections.take_section.Goals as goal

pub returns-in_err-take : goal.returns-in_err-take
unfolding section_at
returns-in_err-take g c =
    let stops = next_passes (same_line c.args.next.now) in
    let body = λ (l : List ℕ). entries stops (line_at g.R.ReadRow.reads) in
    let p = err_from_is_err_and c.from_residual.result c.from_residual.ensures.1 in
    rw (p.1, p.2) (halts (line_at (just c.args.heading.now)) body c.args.lines.now _ c.in_err-take.ensures.exact)

pub returns-in_err-row : goal.returns-in_err-row
unfolding section_at
returns-in_err-row g c =
    let reads = g.R.ReadRow.reads in
    let stops = next_passes (same_line c.args.next.now) in
    let body = λ (l : List ℕ). entries stops (line_at reads) in
    let p = err_from_is_err_and c.from_residual-in_err-row.result c.from_residual-in_err-row.ensures.1 in
    rw (p.1, p.2) (refuses_on _ (line_at reads c.entries.lines) (section_at c.args.heading.now c.args.next.now reads c.args.lines.now)
    (λ n e.
    goes (line_at (just c.args.heading.now)) body c.args.lines.now c.args.heading.now c.take.new.self c.in_ok-take.ensures.exact
    ∙ c.entries.invariant
    ∙ behind_refused c.entries.taken.items n _ (entries_refused stops (line_at reads) c.entries.lines n (sym c.is_next.ensures ∙ c.entries-test.true) e))
    c.in_err-row.ensures)

pub entries-preserved : goal.entries-preserved
entries-preserved g c =
    let reads = g.R.ReadRow.reads in
    let stops = next_passes (same_line c.args.next.now) in
    let more = entries stops (line_at reads) c.take_row.new.lines in
    c.entries.invariant
    ∙ ap (behind c.entries.taken.items) (entries_step stops (line_at reads) c.entries.lines c.take_row.new.lines c.in_ok-row.row (line_shrinks reads) (sym c.is_next.ensures ∙ c.entries-test.true) c.in_ok-row.ensures)
    ∙ behind_more c.entries.taken.items c.in_ok-row.row more
    ∙ ap (λ xs. behind xs more) (sym c.in_ok-push.ensures.appended)

pub returns : goal.returns
unfolding section_at
returns g c =
    let reads = g.R.ReadRow.reads in
    let stops = next_passes (same_line c.args.next.now) in
    let body = λ (l : List ℕ). entries stops (line_at reads) in
    goes (line_at (just c.args.heading.now)) body c.args.lines.now c.args.heading.now c.take.new.self c.in_ok-take.ensures.exact
    ∙ c.entries.invariant
    ∙ behind_all c.entries.taken.items c.from_vec.result c.entries.lines _ c.from_vec.ensures (entries_stop stops (line_at reads) c.entries.lines (sym c.is_next.ensures ∙ c.entries-test.false))
