use Rattle.std.proofs.Common.{◌↔◌, IsTrue, subst}
use Rattle.std.specs.List.{AllByRecursion}
use Rattle.dubp_people_after.specs.Lines.{IsCertified}
use Rattle.dubp_people_after.proofs.Every.{all_certified_told}
use Rattle.dubp_people_after.proofs.rules.certifications_are_signed.Goals as goal

pub returns : goal.returns
returns g c = λ chain shown.
    let v = c.args.verdicts.now in
    let b = c.args.block.now in
    all_certified_told v chain b c.are_certified.result
    (subst (λ lines. IsTrue c.are_certified.result ↔ AllByRecursion (IsCertified v chain b) lines) c.as_slice.ensures (c.are_certified.ensures chain shown))
