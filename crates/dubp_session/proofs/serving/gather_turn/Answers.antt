use Rattle.std.proofs.Common.{refl}
use Rattle.dubp_entries.proofs.Gatherings.{on_ok_then, on_err_then, turn_asked, turn_asked_broke}
use Rattle.dubp_entries.proofs.Remembering.{answers_of, is_ok, recalled, remembered}
use Rattle.dubp_session.proofs.serving.gather_turn.Goals as goal

pub returns-in-Some-clause-owed : goal.returns-in-Some-clause-owed
returns-in-Some-clause-owed g c =
    on_ok_then c.keep.result _ _ (turn_asked _ _ _ _ _ _ _ _ c.args.item refl
    (λ entry whole shows. (recalled _ _ c.args.item _ _ c.line-asked.ensures c.requires.replies c.in-Some.ensures.answers entry whole shows, refl))) c.keep.ensures.passes

pub returns-in-Some-clause-broke : goal.returns-in-Some-clause-broke
returns-in-Some-clause-broke g c =
    on_err_then c.keep.result _ _ (turn_asked_broke _ _ _ _ _ _ _ c.args.item refl
    (λ entry whole shows. (recalled _ _ c.args.item _ _ c.line-asked.ensures c.requires.replies c.in-Some.ensures.answers entry whole shows, refl))) c.keep.ensures.part

pub returns-then-tell_entry-clause-owed : goal.returns-then-tell_entry-clause-owed
returns-then-tell_entry-clause-owed g c =
    on_ok_then c.keep-then-tell_entry.result _ _ (turn_asked _ _ _ _ _ _ _ _ c.args.item c.as_slice-then-tell_entry.ensures.value
    (λ entry whole shows. (c.tell_entry.ensures.told c.if-tell_entry.true entry whole shows, refl))) c.keep-then-tell_entry.ensures.passes

pub returns-then-tell_entry-clause-broke : goal.returns-then-tell_entry-clause-broke
returns-then-tell_entry-clause-broke g c =
    on_err_then c.keep-then-tell_entry.result _ _ (turn_asked_broke _ _ _ _ _ _ _ c.args.item c.as_slice-then-tell_entry.ensures.value
    (λ entry whole shows. (c.tell_entry.ensures.told c.if-tell_entry.true entry whole shows, refl))) c.keep-then-tell_entry.ensures.part

pub returns-then-tell_entry-clause-replies : goal.returns-then-tell_entry-clause-replies
returns-then-tell_entry-clause-replies g c =
    is_ok c.keep-then-tell_entry.result _ (remembered c.args.node.now _ _ c.args.item _ _ c.line-asked.ensures c.requires.replies c.put.ensures
    (answers_of _ _ c.args.item _ _ c.as_slice.ensures.value (λ entry whole shows. (c.tell_entry.ensures.told c.if-tell_entry.true entry whole shows, refl))))
