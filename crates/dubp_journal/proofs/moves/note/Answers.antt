use Rattle.std.proofs.Common.{◌≡◌, ◌∙◌, ap, sym, get_or}
use Rattle.std.proofs.lemmas.List.{get_or_default}
use Rattle.dubp_journal.proofs.Counting.{followed}
use Rattle.dubp_journal.specs.Journal.{bump}
use Rattle.dubp_journal.proofs.Setting.{bump-push}
use Rattle.dubp_journal.proofs.moves.note.Goals as goal

pub returns-in-Some-clause-marks : goal.returns-in-Some-clause-marks
returns-in-Some-clause-marks g c =
    c.push_back_reserved-in-Some.ensures.items ∙ sym (ap bump c.in-Some.ensures.items ∙ bump-push c.pop_back.new.self.items c.in-Some.count)

pub returns-in-Some-clause-uses : goal.returns-in-Some-clause-uses
returns-in-Some-clause-uses g c =
    let u = c.args.uses.now.items in
    let change = c.args.change in
    let read : c.index_mut.result.now ≡ get_or u change.0 0 = c.index_mut.ensures.value ∙ get_or_default u change.0 c.index_mut.result.now 0 c.requires.within in
    rw (c.push_back_reserved.ensures.items, read) (followed u c.args.journal.now.items change c.requires.within)
