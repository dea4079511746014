use Rattle.std.proofs.Common.{subst, ◌↔◌, IsTrue}
use Rattle.std.specs.List.{AllByRecursion}
use Rattle.dubp_people_after.specs.Lines.{HasStaying}
use Rattle.dubp_people_after.proofs.Every.{staying_told}
use Rattle.dubp_people_after.proofs.rules.receivers_stay.Goals as goal

pub returns : goal.returns
returns g c = λ chain shown.
    staying_told chain c.args.block.now c.have_staying.result
    (subst (λ lines. IsTrue c.have_staying.result ↔ AllByRecursion (HasStaying chain c.args.block.now) lines) c.as_slice.ensures (c.have_staying.ensures chain c.args.block.now shown))
