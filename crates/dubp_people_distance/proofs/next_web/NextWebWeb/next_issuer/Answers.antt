use Rattle.std.proofs.Common.{◌∙◌, ap, sym}
use Rattle.std.specs.Option.{option_copied}
use Rattle.dubp_people_distance.proofs.Made.{issuer_known, issuer_before}
use Rattle.dubp_people_distance.proofs.next_web.NextWebWeb.next_issuer.Goals as goal

pub returns-in-Some : goal.returns-in-Some
returns-in-Some g c = λ keys pairs shown.
    issuer_known shown.0 shown.1 _ _ _ _ shown.2.1.0 keys pairs shown.2.1.1 c.args.to c.in-Some.certified.now (sym c.get.ensures.value ∙ ap option_copied c.in-Some.is) c.args.after c.next_above.result c.next_above.ensures

pub returns-in-None : goal.returns-in-None
returns-in-None g c = λ keys pairs shown.
    issuer_before shown.0 shown.1 _ _ _ _ shown.2.1.0 keys pairs shown.2.1.1 c.args.to (sym c.get.ensures.value ∙ ap option_copied c.in-None.is) c.args.after c.issuer_before.result (c.issuer_before.ensures shown.0 shown.1 shown.2.0)
