use Rattle.dubp_people_after.proofs.Identities.{stamp_told}
use Rattle.dubp_people_after.proofs.after.AfterWithBlock.certification_stamp.Goals as goal

pub returns-in-Some : goal.returns-in-Some
returns-in-Some c = λ chain b shown.
    stamp_told chain c.args.line.now c.in-Some.field-0 c.time_of.result _ (c.in-Some.ensures chain shown.0) (c.time_of.ensures chain (c.facts.ensures chain shown.0)) c.stamp_of.ensures
