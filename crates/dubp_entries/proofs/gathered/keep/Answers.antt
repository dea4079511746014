use Rattle.dubp_entries.proofs.Gatherings.{on_ok_then, on_err_then, part_front, part_behind, passes_all}
use Rattle.dubp_entries.proofs.gathered.keep.Goals as goal

pub returns-in-Err-clause-part : goal.returns-in-Err-clause-part
returns-in-Err-clause-part g c = part_front _ _ _ c.args.answer.now c.in-Err.ensures.part

pub returns-then-answer-gt-ROOM-clause-passes : goal.returns-then-answer-gt-ROOM-clause-passes
returns-then-answer-gt-ROOM-clause-passes g c =
    on_ok_then c.write_whole.result _ _ (λ h. passes_all _ _ _ c.args.gathered.now c.args.answer.now _ c.in_default.ensures.written h c.in_default.ensures.nothing) c.write_whole.ensures.whole

pub returns-then-answer-gt-ROOM-clause-part : goal.returns-then-answer-gt-ROOM-clause-part
returns-then-answer-gt-ROOM-clause-part g c =
    on_err_then c.write_whole.result _ _ (λ p. part_behind _ _ _ _ _ c.in_default.ensures.written p) c.write_whole.ensures.part
