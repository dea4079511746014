use Rattle.std.proofs.Common.{ap, refl, ◌∙◌, ◌&&◌, ◌||◌, not, le-leb}
use Rattle.std.proofs.lemmas.Bool.{lt-leb}
use Rattle.std.proofs.lemmas.Result.{on_ok_weaker}
use Rattle.std.specs.BTreeSet.{contains}
use Rattle.dubp_moving.specs.States.{states}
use Rattle.dubp_chain.specs.People.{expired}
use Rattle.dubp_left.specs.Left.{memberships_left}
use Rattle.dubp_left.proofs.Looked.{membership-look}
use Rattle.dubp_steps.specs.Ordered.{text_cmp}
use Rattle.dubp_steps.proofs.Rising.{text_tied}
use Rattle.dubp_people_apply.proofs.EndedLines.{over_test, joins, stays_out, fails_right}
use Rattle.dubp_people_apply.proofs.at_once.note_over.Goals as goal

pub returns : goal.returns
returns c =
    on_ok_weaker c.note.result (λ keys chain facts at written since k.
    joins _ _ (contains text_cmp c.args.set.now k) _
    (over_test chain c.args.block.now c.args.next.now written c.args.line.now c.time_of_membership-made.result c.later.result c.is_over.result (c.time_of_membership-made.ensures chain facts written.sound.1) c.later.ensures
    (c.is_over.ensures chain c.args.block.now c.args.line.now.key written.sound since (ap (λ p. p.ms_validity) written.is_next.params) (c.row-row.ensures (states memberships_left chain) at ∙ membership-look chain c.args.line.now.key))
    ∙ (λ i. le-leb c.later.result c.args.next.now.time c.if-next-later.false i && ap not c.if-is_over.false i))
    (keys k ∙ ap (λ t. t || contains text_cmp c.args.set.now k) (text_tied k c.args.line.now.key))) c.note.ensures.keys

pub returns-then-next-later : goal.returns-then-next-later
returns-then-next-later c =
    λ chain facts at written since k.
    stays_out _ _ (contains text_cmp c.args.set.now k)
    (over_test chain c.args.block.now c.args.next.now written c.args.line.now c.time_of_membership-made.result c.later.result (expired chain c.args.line.now.key) (c.time_of_membership-made.ensures chain facts written.sound.1) c.later.ensures refl
    ∙ ap (λ t. t && not (expired chain c.args.line.now.key)) (lt-leb c.later.result c.args.next.now.time c.if-next-later.true))

pub returns-then-is_over : goal.returns-then-is_over
returns-then-is_over c =
    λ chain facts at written since k.
    stays_out _ _ (contains text_cmp c.args.set.now k)
    (over_test chain c.args.block.now c.args.next.now written c.args.line.now c.time_of_membership-made.result c.later.result c.is_over.result (c.time_of_membership-made.ensures chain facts written.sound.1) c.later.ensures
    (c.is_over.ensures chain c.args.block.now c.args.line.now.key written.sound since (ap (λ p. p.ms_validity) written.is_next.params) (c.row-row.ensures (states memberships_left chain) at ∙ membership-look chain c.args.line.now.key))
    ∙ fails_right _ _ (ap not c.if-is_over.true))
