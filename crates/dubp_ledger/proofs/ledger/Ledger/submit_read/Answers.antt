use Rattle.std.proofs.Common.{refl}
use Rattle.dubp_people_and_money.specs.OfKept.{Breaks, Keeps}
use Rattle.dubp_ledger.proofs.Found.{found_here}
use Rattle.dubp_ledger.proofs.ledger.Ledger.submit_read.Goals as goal

pub join-requires-clause-keeps : goal.join-requires-clause-keeps
join-requires-clause-keeps g c =
    let f = c.in-Ok-Keeps in
    (found_here c.args.verdicts.now c.self.inside.kept c.args.self.now c.args.block f.field-0 (Keeps f.head f.params f.hashes) c.self.view_is f.field-0-is f.ensures).0

pub returns-in-Ok-Breaks-clause-refused : goal.returns-in-Ok-Breaks-clause-refused
returns-in-Ok-Breaks-clause-refused g c =
    let f = c.in-Ok-Breaks in
    (found_here c.args.verdicts.now c.self.inside.kept c.args.self.now c.args.block f.field-0 (Breaks f.rule) c.self.view_is f.field-0-is f.ensures, refl, refl)
