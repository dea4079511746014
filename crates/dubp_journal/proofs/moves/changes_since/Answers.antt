use Rattle.std.proofs.Common.{◌+◌, ◌∙◌, ap, sym, arith}
use Rattle.dubp_journal.proofs.Journals.{last_changes-none, last_changes-le, last_changes-more}
use Rattle.dubp_journal.proofs.moves.changes_since.Goals as goal

pub loop-done-init : goal.loop-done-init
loop-done-init c = sym (last_changes-none c.args.marks.now.items)

pub loop-done-preserved : goal.loop-done-preserved
loop-done-preserved c =
    let marks = c.args.marks.now in
    let more = last_changes-more marks.items c.loop-done.done c.index.result.now c.len.result (c.len.ensures ∙ marks.ok.0) (omega (arith, c.requires.few, c.loop-done-test.true)) c.index.ensures in
    ap (λ k. k + c.index.result.now) c.loop-done.invariant ∙ sym more

pub overflow_add-changes : goal.overflow_add-changes
overflow_add-changes c =
    let marks = c.args.marks.now in
    let more = last_changes-more marks.items c.loop-done.done c.index.result.now c.len.result (c.len.ensures ∙ marks.ok.0) (omega (arith, c.requires.few, c.loop-done-test.true)) c.index.ensures in
    omega (arith, c.loop-done.invariant, more, last_changes-le marks.items (c.loop-done.done + 1), c.requires.fits)
