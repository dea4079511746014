use Rattle.std.proofs.Common.{ap, ◌∙◌, ◌||◌, le-leb}
use Rattle.std.proofs.lemmas.Bool.{lt-leb}
use Rattle.std.proofs.lemmas.Result.{on_ok_weaker}
use Rattle.std.specs.BTreeSet.{contains}
use Rattle.dubp_steps.specs.Ordered.{text_cmp}
use Rattle.dubp_steps.proofs.Rising.{text_tied}
use Rattle.dubp_people_apply.proofs.EndedLines.{revoked_test, joins, stays_out}
use Rattle.dubp_people_apply.proofs.at_once.note_revoked.Goals as goal

pub returns-then-twice_later-next : goal.returns-then-twice_later-next
returns-then-twice_later-next c =
    on_ok_weaker c.note.result (λ keys chain facts written k.
    joins _ _ (contains text_cmp c.args.set.now k) _
    (revoked_test chain c.args.block.now c.args.next.now written c.args.line.now c.time_of_membership-made.result c.twice_later.result (c.time_of_membership-made.ensures chain facts written.sound.1) c.twice_later.ensures
    ∙ le-leb c.twice_later.result c.args.next.now.time c.if-twice_later-next.true)
    (keys k ∙ ap (λ t. t || contains text_cmp c.args.set.now k) (text_tied k c.args.line.now.key))) c.note.ensures.keys

pub returns-else-twice_later-next : goal.returns-else-twice_later-next
returns-else-twice_later-next c =
    λ chain facts written k.
    stays_out _ _ (contains text_cmp c.args.set.now k)
    (revoked_test chain c.args.block.now c.args.next.now written c.args.line.now c.time_of_membership-made.result c.twice_later.result (c.time_of_membership-made.ensures chain facts written.sound.1) c.twice_later.ensures
    ∙ lt-leb c.twice_later.result c.args.next.now.time c.if-twice_later-next.false)
