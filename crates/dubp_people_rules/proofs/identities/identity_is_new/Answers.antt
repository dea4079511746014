use Rattle.std.proofs.Common.{not, ap, sym, ◌∙◌}
use Rattle.dubp_people_rules.proofs.Told.{identity-names}
use Rattle.dubp_people_rules.proofs.identities.identity_is_new.Goals as goal

pub returns : goal.returns
returns c = λ ch at.
    let same = ap not (c.has_identity.ensures ch at ∙ identity-names ch c.args.line.now.key) in
    (λ holds. sym same ∙ holds, λ new. same ∙ new)
