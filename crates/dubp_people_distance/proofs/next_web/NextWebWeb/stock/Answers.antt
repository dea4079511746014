use Rattle.std.proofs.Common.{◌∙◌, ap, sym}
use Rattle.std.specs.Option.{option_copied}
use Rattle.dubp_people_distance.proofs.Made.{stock_known, stock_before}
use Rattle.dubp_people_distance.proofs.next_web.NextWebWeb.stock.Goals as goal

pub returns-in-Some : goal.returns-in-Some
returns-in-Some g c = λ keys pairs shown.
    stock_known shown.0 shown.1 _ _ _ _ shown.2.1.0 keys pairs shown.2.1.1 c.args.key.now c.in-Some.certified.now (sym c.get.ensures.value ∙ ap option_copied c.in-Some.is)

pub returns-in-None : goal.returns-in-None
returns-in-None g c = λ keys pairs shown.
    stock_before shown.0 shown.1 _ _ _ _ shown.2.1.0 keys pairs shown.2.1.1 c.args.key.now (sym c.get.ensures.value ∙ ap option_copied c.in-None.is) c.counts_before.result.stock (c.counts_before.ensures.stock shown.0 shown.1 shown.2.0)
