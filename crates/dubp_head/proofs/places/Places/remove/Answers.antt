use Rattle.std.proofs.Common.{◌≡◌, Bool, true, false, None, ap, subst, refl, ◌∙◌, if◌then◌else◌, arith}
use Rattle.std.specs.Map.{lookup}
use Rattle.std.proofs.lemmas.List.Edits.{length-remove}
use Rattle.dubp_atoms.specs.Same.{same_text}
use Rattle.dubp_head.specs.Entries.{PlacesState, IsRising}
use Rattle.dubp_head.proofs.Entries.{lookup_at, lookup_gap, lookup_remove, same_text_is}
use Rattle.dubp_head.proofs.places.Places.remove.Goals as goal

pub returns-in-Ok-clause-places : goal.returns-in-Ok-clause-places
returns-in-Ok-clause-places c =
    let seen : c.self.inside.pairs.items ≡ c.args.self.now.entries = ap (λ (v : PlacesState). v.entries) c.self.view_is in
    rw (c.remove.ensures.items, seen) (lookup_remove _ (subst IsRising seen c.self.invariant) _ _ c.in-Ok.ensures.found)

pub returns-in-Ok-clause-len : goal.returns-in-Ok-clause-len
returns-in-Ok-clause-len c =
    let seen : c.self.inside.pairs.items ≡ c.args.self.now.entries = ap (λ (v : PlacesState). v.entries) c.self.view_is in
    rw (c.remove.ensures.items, seen, lookup_at _ (subst IsRising seen c.self.invariant) _ _ c.in-Ok.ensures.found (c.args.key.now, 0)) (length-remove _ _ c.in-Ok.ensures.found.in_range)

-- the key was not there
pub returns-in_default-clause-places : goal.returns-in_default-clause-places
returns-in_default-clause-places c q = by (same_text q c.args.key.now) refl
  where
    by : (b : Bool) → same_text q c.args.key.now ≡ b → lookup (same_text q) c.args.self.now.entries ≡ (if b then None else lookup (same_text q) c.args.self.now.entries)
    by true same = ap (λ k. lookup (same_text k) c.args.self.now.entries) (same_text_is q c.args.key.now same) ∙ lookup_gap _ _ _ c.in_default.ensures.absent
    by false same = refl

pub returns-in_default-clause-len : goal.returns-in_default-clause-len
returns-in_default-clause-len c = rw (lookup_gap _ _ _ c.in_default.ensures.absent) (omega arith)
