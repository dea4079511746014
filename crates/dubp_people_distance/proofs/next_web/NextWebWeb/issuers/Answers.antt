use Rattle.std.proofs.Common.{◌∙◌, ap, sym}
use Rattle.std.specs.Option.{option_copied}
use Rattle.std.proofs.lemmas.Result.{IfOk-weaker}
use Rattle.dubp_people_distance.proofs.Made.{issuers_known, issuers_before}
use Rattle.dubp_people_distance.proofs.next_web.NextWebWeb.issuers.Goals as goal

pub returns-in-None : goal.returns-in-None
returns-in-None g c =
    IfOk-weaker c.issuers_before.result _ _ (λ found next keys pairs shown.
    issuers_before shown.0 shown.1 _ _ _ _ shown.2.1.0 keys pairs shown.2.1.1 c.args.to (sym c.get.ensures.value ∙ ap option_copied c.in-None.is) found.items (next shown.0 shown.1 shown.2.0)) c.issuers_before.ensures

pub returns-in-Some : goal.returns-in-Some
returns-in-Some g c =
    IfOk-weaker c.keys_in_order.result _ _ (λ found same keys pairs shown.
    issuers_known shown.0 shown.1 _ _ _ _ shown.2.1.0 keys pairs shown.2.1.1 c.args.to c.in-Some.certified.now (sym c.get.ensures.value ∙ ap option_copied c.in-Some.is) found.items same c.keys_in_order.ensures.ordered) c.keys_in_order.ensures.same
