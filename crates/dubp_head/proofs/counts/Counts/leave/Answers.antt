use Rattle.std.proofs.Common.{◌-◌, ◌<◌, ◌∷◌, length, get_or, set, IsSome, ap, subst, sym, ◌∙◌, arith}
use Rattle.dubp_head.specs.Counts.{CountsState, AreCounted, IsRankedOf}
use Rattle.dubp_head.proofs.Counting.{popped_number, going-within, going-some, IsLeft-framed}
use Rattle.dubp_head.proofs.counts.Counts.leave.Goals as goal

pub lower-requires-clause-within : goal.lower-requires-clause-within
lower-requires-clause-within c =
    let r = c.requires in
    let was = subst (λ s. AreCounted s (r.key ∷ r.issuers)) (sym c.self.view_is) r.are in
    let there : 0 < length c.self.inside.numbers.items → IsSome c.pop.result = λ some. c.pop.ensures.variant.1 (omega (arith, c.self.inside.numbers.ok.0, some)) in
    let number = c.unwrap_or-number.ensures ∙ (popped_number _ r.key r.issuers was c.pop.new.self.items c.pop.result c.pop.ensures.items there).1 in
    omega (arith, number, going-within _ r.key r.issuers was)

pub lower-requires-clause-some : goal.lower-requires-clause-some
lower-requires-clause-some c =
    let r = c.requires in
    let was = subst (λ s. AreCounted s (r.key ∷ r.issuers)) (sym c.self.view_is) r.are in
    let there : 0 < length c.self.inside.numbers.items → IsSome c.pop.result = λ some. c.pop.ensures.variant.1 (omega (arith, c.self.inside.numbers.ok.0, some)) in
    let number = c.unwrap_or-number.ensures ∙ (popped_number _ r.key r.issuers was c.pop.new.self.items c.pop.result c.pop.ensures.items there).1 in
    subst (λ n. 0 < get_or c.self.inside.counts.items n 0) (sym number) (going-some _ r.key r.issuers was c.if-self-gt0.true)

pub returns-then-self-gt0-clause-left : goal.returns-then-self-gt0-clause-left
returns-then-self-gt0-clause-left c issuers k counted =
    let was = subst (λ s. AreCounted s (k ∷ issuers)) (sym c.self.view_is) counted in
    let there : 0 < length c.self.inside.numbers.items → IsSome c.pop.result = λ some. c.pop.ensures.variant.1 (omega (arith, c.self.inside.numbers.ok.0, some)) in
    let parts = popped_number _ k issuers was c.pop.new.self.items c.pop.result c.pop.ensures.items there in
    let number = c.unwrap_or-number.ensures ∙ parts.1 in
    let view = c.self-then-self-gt0.view_is in
    IsLeft-framed _ k issuers was _ c.if-self-gt0.true
    (ap (λ (s : CountsState). s.counts) view ∙ c.lower.ensures.counts ∙ ap (λ n. set c.self.inside.counts.items n (get_or c.self.inside.counts.items n 0 - 1)) number)
    (ap (λ (s : CountsState). s.numbers) view ∙ c.lower.ensures.numbers ∙ parts.0)
    (subst (λ (s : CountsState). IsRankedOf s.ranked s.counts) (sym view) c.lower.ensures.ranked)
    (omega (arith, ap (λ (s : CountsState). s.blocks) view, c.lower.ensures.blocks, c.if-self-gt0.true))
    (omega (arith, ap (λ (s : CountsState). s.room) view, c.lower.ensures.room, c.pop.ensures.capacity))
