use Rattle.std.proofs.Common.{◌≡◌, ap, rules}
use Rattle.std.proofs.lemmas.List.Sorted.{answers_always}
use Rattle.dubp_head.specs.Entries.{PlacesState}
use Rattle.dubp_head.proofs.Entries.{searched}
use Rattle.dubp_head.proofs.places.Places.search.Goals as goal

-- the closure gives a pair's key, and the slice is the pairs
pub returns : goal.returns
returns c =
    let facts = c.binary_search_by_key.ensures in
    let by_key = facts.position (λ pair. pair.0) (answers_always _ _ _ (λ f a r g called. search rules)) in
    let seen : c.self.inside.pairs.items ≡ c.args.self.now.entries = ap (λ (v : PlacesState). v.entries) c.self.view_is in
    rw (← seen, ← c.deref.ensures.value) (searched _ (rw c.deref.ensures.value c.self.invariant) c.args.key.now _ facts.bound by_key)
