use Rattle.std.proofs.Common.{◌≡◌, ap, subst, sym, ◌∙◌, ◌++◌, ◌∷◌, [], length, Some}
use Rattle.dubp_head.specs.LastBlocks.{AreIssuers}
use Rattle.dubp_head.proofs.Entries.{FindsAt}
use Rattle.dubp_head.proofs.LastBlocks.{AreIssuers-push}
use Rattle.dubp_head.proofs.issuers.Issuers.push.Goals as goal

pub returns-clause-issuers : goal.returns-clause-issuers
returns-clause-issuers c keys kept =
    let was : AreIssuers _ keys = subst (λ s. AreIssuers s keys) (sym c.self.view_is) kept in
    let place : c.len-place.result ≡ length c.self.inside.before.items = c.len-place.ensures ∙ c.self.inside.before.ok.0 in
    let finds : FindsAt c.self.inside.last.entries c.replace-earlier.new.self.entries c.args.key (Some (length c.self.inside.before.items)) = subst (λ n. FindsAt c.self.inside.last.entries c.replace-earlier.new.self.entries c.args.key (Some n)) place c.replace-earlier.ensures.places in
    AreIssuers-push _ _ c.args.key keys was finds c.replace-earlier.ensures.len (c.push_reserved.ensures.items ∙ ap (λ o. c.self.inside.before.items ++ o ∷ []) c.replace-earlier.ensures.earlier)
