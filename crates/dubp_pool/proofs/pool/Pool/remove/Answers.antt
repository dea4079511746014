use Rattle.std.proofs.Common.{◌∙◌, ap, rules}
use Rattle.indexmap.proofs.CallerLemmas.{filter-RetainsPairs}
use Rattle.dubp_pool.specs.Pools.{is_pending}
use Rattle.dubp_pool.proofs.Kept.{is_found, removed}
use Rattle.dubp_pool.proofs.pool.Pool.remove.Goals as goal

pub invariant_of-self : goal.invariant_of-self
invariant_of-self c =
    (removed c.self.inside.documents.entries c.retain.new.self.entries c.args.self.now c.args.hash c.self.invariant c.self.view_is
    (filter-RetainsPairs _ _ _ (λ k v b w g call. search rules) _ _ c.retain.ensures.filtered)).kept

pub returns-clause-was : goal.returns-clause-was
returns-clause-was c =
    c.contains_key-was.ensures ∙ is_found c.self.inside.documents.entries c.args.hash c.self.invariant ∙ ap (λ p. is_pending p c.args.hash) c.self.view_is

pub returns-clause-left : goal.returns-clause-left
returns-clause-left c =
    (removed c.self.inside.documents.entries c.retain.new.self.entries c.args.self.now c.args.hash c.self.invariant c.self.view_is
    (filter-RetainsPairs _ _ _ (λ k v b w g call. search rules) _ _ c.retain.ensures.filtered)).view
