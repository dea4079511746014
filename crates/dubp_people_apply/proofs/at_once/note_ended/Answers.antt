use Rattle.std.proofs.Common.{ap, sym, ◌∙◌, ◌&&◌, ◌||◌, le-leb}
use Rattle.std.proofs.lemmas.Bool.{lt-leb}
use Rattle.std.proofs.lemmas.Result.{on_ok_weaker}
use Rattle.std.specs.BTreeSet.{contains}
use Rattle.dubp_moving.specs.States.{states}
use Rattle.dubp_cindex.specs.Rows.{lives}
use Rattle.dubp_left.specs.Left.{certifications_left}
use Rattle.dubp_steps.specs.Ordered.{pair_cmp}
use Rattle.dubp_steps.proofs.Rising.{pair_tied}
use Rattle.dubp_people_apply.proofs.Joined.{certification-look}
use Rattle.dubp_people_apply.proofs.EndedLines.{ended_test, joins, stays_out, fails_right}
use Rattle.dubp_people_apply.proofs.at_once.note_ended.Goals as goal

pub returns-then-is_live : goal.returns-then-is_live
returns-then-is_live c =
    on_ok_weaker c.note.result (λ keys chain facts at written x y.
    joins _ _ (contains pair_cmp c.args.set.now (x, y)) _
    (ended_test chain c.args.block.now c.args.next.now written c.args.line.now c.time_of_certification-made.result c.later.result c.row-row.result (c.time_of_certification-made.ensures chain facts) c.later.ensures
    (c.row-row.ensures (states certifications_left chain) at ∙ certification-look chain c.args.line.now.from c.args.line.now.to)
    ∙ (λ i. le-leb c.later.result c.args.next.now.time c.if-next-later.false i && (sym c.is_live.ensures ∙ c.if-is_live.true) i))
    (keys (x, y) ∙ ap (λ t. t || contains pair_cmp c.args.set.now (x, y)) (pair_tied x y (c.args.line.now.from, c.args.line.now.to)))) c.note.ensures.keys

pub returns-then-next-later : goal.returns-then-next-later
returns-then-next-later c =
    λ chain facts at written x y.
    stays_out _ _ (contains pair_cmp c.args.set.now (x, y))
    (ended_test chain c.args.block.now c.args.next.now written c.args.line.now c.time_of_certification-made.result c.later.result c.row-row.result (c.time_of_certification-made.ensures chain facts) c.later.ensures
    (c.row-row.ensures (states certifications_left chain) at ∙ certification-look chain c.args.line.now.from c.args.line.now.to)
    ∙ ap (λ t. t && lives c.row-row.result) (lt-leb c.later.result c.args.next.now.time c.if-next-later.true))

pub returns-else-is_live : goal.returns-else-is_live
returns-else-is_live c =
    λ chain facts at written x y.
    stays_out _ _ (contains pair_cmp c.args.set.now (x, y))
    (ended_test chain c.args.block.now c.args.next.now written c.args.line.now c.time_of_certification-made.result c.later.result c.row-row.result (c.time_of_certification-made.ensures chain facts) c.later.ensures
    (c.row-row.ensures (states certifications_left chain) at ∙ certification-look chain c.args.line.now.from c.args.line.now.to)
    ∙ fails_right _ _ (sym c.is_live.ensures ∙ c.if-is_live.false))
