use Rattle.std.proofs.Common.{subst, ◌↔◌, IsTrue}
use Rattle.std.specs.List.{AllByRecursion}
use Rattle.dubp_people_after.specs.Lines.{HasMember}
use Rattle.dubp_people_after.proofs.Every.{members_told}
use Rattle.dubp_people_after.proofs.rules.receivers_are_members.Goals as goal

pub returns : goal.returns
returns g c = λ chain shown.
    members_told chain c.args.block.now c.have_members.result
    (subst (λ lines. IsTrue c.have_members.result ↔ AllByRecursion (HasMember chain c.args.block.now) lines) c.as_slice.ensures (c.have_members.ensures chain c.args.block.now shown))
