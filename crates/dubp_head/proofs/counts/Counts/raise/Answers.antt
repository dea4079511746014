use Rattle.std.proofs.Common.{◌<◌, length, ap, subst, sym, ◌∙◌, arith}
use Rattle.std.proofs.lemmas.List.{get_or_default}
use Rattle.dubp_head.specs.Counts.{CountsState, IsRankedOf, IsFirstPlace}
use Rattle.dubp_head.proofs.Ranking.{ranked_fewer, ranked_there, ranked_first, ranked_raised}
use Rattle.dubp_head.proofs.counts.Counts.raise.Goals as goal

pub push_reserved-requires : goal.push_reserved-requires
push_reserved-requires c =
    let ranked = subst (λ (s : CountsState). IsRankedOf s.ranked s.counts) (sym c.self.view_is) c.requires.ranked in
    let lt : c.args.number < length c.self.inside.counts.items = omega (arith, c.requires.within, ap (λ (s : CountsState). length s.counts) c.self.view_is) in
    let count = c.index-count.ensures ∙ get_or_default _ _ _ 0 lt in
    let fewer = ranked_fewer c.self.inside.ranked.items c.self.inside.counts.items c.args.number ranked lt (sym count ∙ c.if-count-eq0.true) in
    omega (arith, fewer, c.self.inside.ranked.ok.0, c.requires.room, ap (λ (s : CountsState). length s.counts) c.self.view_is, ap (λ (s : CountsState). s.room) c.self.view_is)

pub first_place_of-place-requires-clause-there : goal.first_place_of-place-requires-clause-there
first_place_of-place-requires-clause-there c =
    let ranked = subst (λ (s : CountsState). IsRankedOf s.ranked s.counts) (sym c.self.view_is) c.requires.ranked in
    let lt : c.args.number < length c.self.inside.counts.items = omega (arith, c.requires.within, ap (λ (s : CountsState). length s.counts) c.self.view_is) in
    let count = c.index-count.ensures ∙ get_or_default _ _ _ 0 lt in
    rw c.deref.ensures.value (ranked_there c.self.inside.ranked.items c.self.inside.counts.items c.args.number _ ranked lt (sym count) (omega (arith, c.if-count-eq0.false)))

pub returns-then-count-eq0-clause-ranked : goal.returns-then-count-eq0-clause-ranked
returns-then-count-eq0-clause-ranked c =
    let ranked = subst (λ (s : CountsState). IsRankedOf s.ranked s.counts) (sym c.self.view_is) c.requires.ranked in
    let lt : c.args.number < length c.self.inside.counts.items = omega (arith, c.requires.within, ap (λ (s : CountsState). length s.counts) c.self.view_is) in
    let count = c.index-count.ensures ∙ get_or_default _ _ _ 0 lt in
    rw c.push_reserved.ensures.items (ranked_first c.self.inside.ranked.items c.self.inside.counts.items c.args.number _ ranked lt (sym count) c.if-count-eq0.true)

pub returns-else-count-eq0-clause-ranked : goal.returns-else-count-eq0-clause-ranked
returns-else-count-eq0-clause-ranked c =
    let ranked = subst (λ (s : CountsState). IsRankedOf s.ranked s.counts) (sym c.self.view_is) c.requires.ranked in
    let lt : c.args.number < length c.self.inside.counts.items = omega (arith, c.requires.within, ap (λ (s : CountsState). length s.counts) c.self.view_is) in
    let count = c.index-count.ensures ∙ get_or_default _ _ _ 0 lt in
    let place = subst (λ l. IsFirstPlace l c.index-count.result.now c.first_place_of-place.result) c.deref.ensures.value c.first_place_of-place.ensures in
    ranked_raised c.self.inside.ranked.items c.self.inside.counts.items c.args.number _ ranked lt (sym count) _ place (omega (arith, c.if-count-eq0.false))
