use Rattle.std.proofs.Common.{◌<◌, length, IsSome, not, ap, subst, sym, refl, ◌∙◌, arith}
use Rattle.dubp_head.specs.Counts.{IsLeft}
use Rattle.dubp_head.proofs.Counting.{AreCounted-pop_known, AreCounted-pop_new, none_from, some_from}
use Rattle.dubp_head.proofs.counts.Counts.pop.Goals as goal

pub returns-then-is_none-clause-counted : goal.returns-then-is_none-clause-counted
returns-then-is_none-clause-counted c issuers k last counted =
    let left = subst (λ s. IsLeft s issuers k) (sym c.self.view_is) (c.leave.ensures.left issuers k counted) in
    let there : 0 < length c.self.inside.counts.items → IsSome c.pop.result = λ some. c.pop.ensures.variant.1 (omega (arith, c.self.inside.counts.ok.0, some)) in
    let none = none_from c.args.earlier (c.is_none.ensures ∙ ap not c.if-is_none.true) in
    AreCounted-pop_new _ k issuers left _ c.pop.result (sym last ∙ none) c.pop.ensures.items there refl refl refl (omega (arith, c.pop.ensures.capacity))

pub returns-else-is_none-clause-counted : goal.returns-else-is_none-clause-counted
returns-else-is_none-clause-counted c issuers k last counted =
    let some = some_from c.args.earlier (c.is_none.ensures ∙ ap not c.if-is_none.false) in
    AreCounted-pop_known c.leave.new.self k issuers (c.leave.ensures.left issuers k counted) c.leave.new.self some.0 (sym last ∙ some.1) refl
