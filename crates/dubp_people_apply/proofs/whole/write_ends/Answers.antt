use Rattle.std.proofs.lemmas.Result.{on_ok_weaker}
use Rattle.dubp_people_apply.proofs.Counted.{steps_within}
use Rattle.dubp_people_apply.proofs.Joined.{left_with}
use Rattle.dubp_people_apply.proofs.Recorded.{recorded}
use Rattle.dubp_people_apply.proofs.whole.write_ends.Goals as goal

pub returns-clause-left : goal.returns-clause-left
returns-clause-left g c =
    on_ok_weaker c.put_ended.result (λ _ chain facts written since left.
    left_with (λ s t at. at) (λ s t at. at) (λ s t at. at) chain c.args.block.now c.write_tables.new.ended (c.in_ok-write_tables.ensures.taken chain facts written since left (c.in_ok-ended.ensures chain facts left.memberships left.certifications written since))) c.put_ended.ensures.records

pub returns-clause-records : goal.returns-clause-records
returns-clause-records g c =
    on_ok_weaker c.put_ended.result (λ last chain facts written since left.
    last chain c.args.block.now written.sound (recorded chain c.args.block.now c.write_tables.new.ended (c.in_ok-write_tables.ensures.taken chain facts written since left (c.in_ok-ended.ensures chain facts left.memberships left.certifications written since)))) c.put_ended.ensures.records

pub returns-clause-steps : goal.returns-clause-steps
returns-clause-steps g c =
    on_ok_weaker c.put_ended.result (λ lengths chain facts written since left.
    let b = c.args.block.now in
    let within = c.in_ok-write_tables.ensures.within chain facts written since left (c.in_ok-ended.ensures chain facts left.memberships left.certifications written since) in
    steps_within chain b c.write_tables.new.ended (lengths chain b written.sound (recorded chain b c.write_tables.new.ended (c.in_ok-write_tables.ensures.taken chain facts written since left (c.in_ok-ended.ensures chain facts left.memberships left.certifications written since)))) _ _ within) c.put_ended.ensures.lengths
