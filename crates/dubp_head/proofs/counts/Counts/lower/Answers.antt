use Rattle.std.proofs.Common.{◌<◌, IsSome, length, get_or, ap, subst, sym, ◌∙◌, arith}
use Rattle.std.proofs.lemmas.List.{get_or_default}
use Rattle.dubp_head.specs.Counts.{CountsState, IsRankedOf, IsLastPlace}
use Rattle.dubp_head.proofs.Ranking.{ranked_there, ranked_last, ranked_lowered}
use Rattle.dubp_head.proofs.counts.Counts.lower.Goals as goal

pub last_place_of-place-requires-clause-there : goal.last_place_of-place-requires-clause-there
last_place_of-place-requires-clause-there c =
    let ranked = subst (λ (s : CountsState). IsRankedOf s.ranked s.counts) (sym c.self.view_is) c.requires.ranked in
    let lt : c.args.number < length c.self.inside.counts.items = omega (arith, c.requires.within, ap (λ (s : CountsState). length s.counts) c.self.view_is) in
    let count = c.index-count.ensures ∙ get_or_default _ _ _ 0 lt in
    let some : 0 < get_or c.self.inside.counts.items c.args.number 0 = subst (λ (s : CountsState). 0 < get_or s.counts c.args.number 0) (sym c.self.view_is) c.requires.some in
    rw c.deref.ensures.value (ranked_there c.self.inside.ranked.items c.self.inside.counts.items c.args.number _ ranked lt (sym count) (omega (arith, some, count)))

pub returns-then-count-eq1-clause-ranked : goal.returns-then-count-eq1-clause-ranked
returns-then-count-eq1-clause-ranked c =
    let ranked = subst (λ (s : CountsState). IsRankedOf s.ranked s.counts) (sym c.self.view_is) c.requires.ranked in
    let lt : c.args.number < length c.self.inside.counts.items = omega (arith, c.requires.within, ap (λ (s : CountsState). length s.counts) c.self.view_is) in
    let count = c.index-count.ensures ∙ get_or_default _ _ _ 0 lt in
    let there : 0 < length c.self.inside.ranked.items → IsSome c.pop.result = λ some. c.pop.ensures.variant.1 (omega (arith, c.self.inside.ranked.ok.0, some)) in
    ranked_last c.self.inside.ranked.items c.self.inside.counts.items c.args.number _ ranked lt (sym count) _ c.pop.result c.if-count-eq1.true c.pop.ensures.items there

pub returns-else-count-eq1-clause-ranked : goal.returns-else-count-eq1-clause-ranked
returns-else-count-eq1-clause-ranked c =
    let ranked = subst (λ (s : CountsState). IsRankedOf s.ranked s.counts) (sym c.self.view_is) c.requires.ranked in
    let lt : c.args.number < length c.self.inside.counts.items = omega (arith, c.requires.within, ap (λ (s : CountsState). length s.counts) c.self.view_is) in
    let count = c.index-count.ensures ∙ get_or_default _ _ _ 0 lt in
    let some : 0 < get_or c.self.inside.counts.items c.args.number 0 = subst (λ (s : CountsState). 0 < get_or s.counts c.args.number 0) (sym c.self.view_is) c.requires.some in
    let place = subst (λ l. IsLastPlace l c.index-count.result.now c.last_place_of-place.result) c.deref.ensures.value c.last_place_of-place.ensures in
    ranked_lowered c.self.inside.ranked.items c.self.inside.counts.items c.args.number _ ranked lt (sym count) _ place (omega (arith, some, count, c.if-count-eq1.false))
