use Rattle.std.proofs.Common.{◌-◌, ◌<◌, length, get_or, ap, ◌∙◌, arith}
use Rattle.std.proofs.lemmas.List.{get_or_default}
use Rattle.dubp_head.specs.Totals.{SizesState}
use Rattle.dubp_head.proofs.Totals.{total_first}
use Rattle.dubp_head.proofs.sizes.Sizes.of_first.Goals as goal

pub returns-else-count-eq0 : goal.returns-else-count-eq0
returns-else-count-eq0 c hs are =
    let some : 0 < c.args.count = omega (arith, c.if-count-eq0.false) in
    let within : c.args.count - 1 < length c.self.inside.totals.items = omega (arith, some, c.requires, ap (λ (s : SizesState). length s.totals) c.self.view_is) in
    c.index.ensures
    ∙ get_or_default c.self.inside.totals.items (c.args.count - 1) c.index.result.now 0 within
    ∙ ap (λ (s : SizesState). get_or s.totals (c.args.count - 1) 0) c.self.view_is
    ∙ total_first c.args.self.now hs c.args.count are some c.requires
