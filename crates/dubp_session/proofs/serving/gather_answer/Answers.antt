use Rattle.std.proofs.Common.{subst, sym}
use Rattle.dubp_entries.proofs.Gatherings.{on_ok_then, on_err_then, turn_asked, turn_asked_broke}
use Rattle.dubp_entries.proofs.Questions.{asks_same}
use Rattle.dubp_entries.proofs.Remembering.{answers_of, is_ok, remembered}
use Rattle.dubp_entries.specs.Remembered.{AreReplies}
use Rattle.dubp_session.proofs.serving.gather_answer.Goals as goal

pub returns-clause-owed : goal.returns-clause-owed
returns-clause-owed g c =
    on_ok_then c.keep.result _ _ (turn_asked _ _ _ _ _ _ _ _ c.args.item c.bytes-answer.ensures
    (λ entry whole shows. asks_same _ _ _ entry c.laws.ensures.failures (c.requires.question entry whole shows) (c.answer_item-told.ensures entry whole shows))) c.keep.ensures.passes

pub returns-clause-broke : goal.returns-clause-broke
returns-clause-broke g c =
    on_err_then c.keep.result _ _ (turn_asked_broke _ _ _ _ _ _ _ c.args.item c.bytes-answer.ensures
    (λ entry whole shows. asks_same _ _ _ entry c.laws.ensures.failures (c.requires.question entry whole shows) (c.answer_item-told.ensures entry whole shows))) c.keep.ensures.part

pub returns-clause-replies : goal.returns-clause-replies
returns-clause-replies g c =
    let shown = c.requires.shown in
    let same = (asks_same _ _ _ shown.0 c.laws.ensures.failures (c.requires.question shown.0 shown.1 shown.2) (c.answer_item-told.ensures shown.0 shown.1 shown.2)).1 in
    is_ok c.keep.result _ (subst (λ s. AreReplies s c.put.new.self) (sym same)
    (remembered c.args.node.now _ _ c.args.item _ _ c.line-asked.ensures c.requires.replies c.put.ensures
    (answers_of _ _ c.args.item _ _ c.bytes-answer.ensures (λ entry whole shows. asks_same _ _ _ entry c.laws.ensures.failures (c.requires.question entry whole shows) (c.answer_item-told.ensures entry whole shows)))))
