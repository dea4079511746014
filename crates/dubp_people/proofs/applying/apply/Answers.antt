use Rattle.std.proofs.Common.{◌++◌, ◌∙◌, ap}
use Rattle.dubp_validity.specs.Records.{line_records}
use Rattle.dubp_people_apply.specs.Ends.{end_records}
use Rattle.dubp_people.proofs.applying.apply.Goals as goal

pub returns-clause-records : goal.returns-clause-records
returns-clause-records g c = λ chain applied at.
    let b = c.args.block.now in
    let lines = c.in_ok-put_line_records.ensures.appended chain (c.facts.ensures chain at) applied.sound.1 ∙ ap (λ l. l ++ line_records chain b) c.new-records.ensures.items in
    c.in_ok-append-2.ensures.appended
    ∙ ap (λ l. c.args.out.now.items ++ l) (c.in_ok-append.ensures.appended ∙ (λ i. lines i ++ c.in_ok-ended.ensures.records chain applied at i))
