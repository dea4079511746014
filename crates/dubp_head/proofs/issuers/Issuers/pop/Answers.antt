use Rattle.std.proofs.Common.{ap, subst, sym, ◌∙◌, ◌∷◌, length, Some, None, ◌<◌, IsSome, ◌+◌, if◌then◌else◌, arith}
use Rattle.dubp_head.specs.LastBlocks.{AreIssuers}
use Rattle.dubp_head.proofs.LastBlocks.{AreIssuers-pop, last-IsSome}
use Rattle.dubp_head.proofs.issuers.Issuers.pop.Goals as goal

-- the issuer had a block before it
pub returns-in-Some-clause-issuers : goal.returns-in-Some-clause-issuers
returns-in-Some-clause-issuers c keys kept =
    let was : AreIssuers _ _ = subst (λ s. AreIssuers s (c.args.key.now ∷ keys)) (sym c.self.view_is) kept in
    let there : 0 < length c.self.inside.before.items → IsSome c.pop.result = λ some. c.pop.ensures.variant.1 (omega (arith, c.self.inside.before.ok.0)) in
    let same = c.replace.ensures.len ∙ ap (λ b. length c.self.inside.last.entries + (if b then 0 else 1)) (last-IsSome _ _ keys was) in
    AreIssuers-pop _ _ c.args.key.now keys c.pop.result (Some c.in-Some.place) was c.pop.ensures.items there (sym c.in-Some.is ∙ c.unwrap_or-earlier.ensures) c.replace.ensures.places (omega (arith, same))

-- it was his only block
pub returns-in-None-clause-issuers : goal.returns-in-None-clause-issuers
returns-in-None-clause-issuers c keys kept =
    let was : AreIssuers _ _ = subst (λ s. AreIssuers s (c.args.key.now ∷ keys)) (sym c.self.view_is) kept in
    let there : 0 < length c.self.inside.before.items → IsSome c.pop.result = λ some. c.pop.ensures.variant.1 (omega (arith, c.self.inside.before.ok.0)) in
    let fewer = sym c.remove.ensures.len ∙ ap (λ b. length c.remove.new.self.entries + (if b then 1 else 0)) (last-IsSome _ _ keys was) in
    AreIssuers-pop _ _ c.args.key.now keys c.pop.result None was c.pop.ensures.items there (sym c.in-None.is ∙ c.unwrap_or-earlier.ensures) c.remove.ensures.places (omega (arith, fewer))
