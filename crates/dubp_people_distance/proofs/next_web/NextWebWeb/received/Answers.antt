use Rattle.std.proofs.Common.{◌∙◌, ap, sym}
use Rattle.std.specs.Option.{option_copied}
use Rattle.dubp_people_distance.proofs.Made.{received_known, received_before}
use Rattle.dubp_people_distance.proofs.next_web.NextWebWeb.received.Goals as goal

pub returns-in-Some : goal.returns-in-Some
returns-in-Some g c = λ keys pairs shown.
    received_known shown.0 shown.1 _ _ _ _ shown.2.1.0 keys pairs shown.2.1.1 c.args.key.now c.in-Some.certified.now (sym c.get.ensures.value ∙ ap option_copied c.in-Some.is)

pub returns-in-None : goal.returns-in-None
returns-in-None g c = λ keys pairs shown.
    received_before shown.0 shown.1 _ _ _ _ shown.2.1.0 keys pairs shown.2.1.1 c.args.key.now (sym c.get.ensures.value ∙ ap option_copied c.in-None.is) c.counts_before.result.received (c.counts_before.ensures.received shown.0 shown.1 shown.2.0)
