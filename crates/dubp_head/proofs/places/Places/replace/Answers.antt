use Rattle.std.proofs.Common.{◌≡◌, ◌<◌, length, ap, subst, sym, ◌∙◌, if◌then◌else◌, vec_len, vec_capacity, arith}
use Rattle.std.specs.List.{insert}
use Rattle.std.specs.Map.{lookup}
use Rattle.std.proofs.Common.{ℕ, None}
use Rattle.dubp_atoms.specs.Same.{Text, same_text}
use Rattle.dubp_head.specs.declared.places.Places.TheInside.{Inside}
use Rattle.dubp_head.specs.contracts.places.Places.{the_view as view_of}
use Rattle.std.proofs.lemmas.List.{length-set}
use Rattle.std.proofs.lemmas.List.Edits.{length-insert}
use Rattle.dubp_head.specs.Entries.{PlacesState, IsRising, IsGapFor}
use Rattle.dubp_head.proofs.Entries.{lookup_at, lookup_gap, lookup_set, lookup_insert, rising_insert}
use Rattle.dubp_head.proofs.places.Places.replace.Goals as goal

pub returns-in-Ok-clause-earlier : goal.returns-in-Ok-clause-earlier
returns-in-Ok-clause-earlier c =
    let seen : c.self.inside.pairs.items ≡ c.args.self.now.entries = ap (λ (v : PlacesState). v.entries) c.self.view_is in
    let found = lookup_at _ (subst IsRising seen c.self.invariant) _ _ c.in-Ok.ensures.found c.index.result.now in
    cc

pub returns-in-Err-clause-earlier : goal.returns-in-Err-clause-earlier
returns-in-Err-clause-earlier c = sym (lookup_gap _ _ _ c.in-Err.ensures.absent)

-- the place was written over
pub returns-in-Ok-clause-places : goal.returns-in-Ok-clause-places
returns-in-Ok-clause-places c =
    let seen : c.self.inside.pairs.items ≡ c.args.self.now.entries = ap (λ (v : PlacesState). v.entries) c.self.view_is in
    rw seen (lookup_set _ (subst IsRising seen c.self.invariant) _ _ c.in-Ok.ensures.found _)

pub returns-in-Ok-clause-len : goal.returns-in-Ok-clause-len
returns-in-Ok-clause-len c =
    let seen : c.self.inside.pairs.items ≡ c.args.self.now.entries = ap (λ (v : PlacesState). v.entries) c.self.view_is in
    rw (seen, lookup_at _ (subst IsRising seen c.self.invariant) _ _ c.in-Ok.ensures.found (c.args.key, 0), length-set) (omega arith)

-- a pair was put into the gap, for which there was room
room : (v : Inside) (old : PlacesState) (key : Text) (at : ℕ) → view_of v ≡ old → IsGapFor old.entries key at → (lookup (same_text key) old.entries ≡ None → length old.entries < old.capacity) → vec_len v.pairs < vec_capacity v.pairs
room v old key at seen gap fits = omega (arith, ap (λ (p : PlacesState). length p.entries) seen, ap (λ (p : PlacesState). p.capacity) seen, v.pairs.ok.0, fits (lookup_gap _ key at gap))

pub prove-unreachable-requires : goal.prove-unreachable-requires
prove-unreachable-requires c =
    let ok = c.insert-inserted.ensures.succeeds (room c.self.inside _ _ _ c.self.view_is c.in-Err.ensures.absent c.requires) in
    cc

put : (c : goal.Else-prove) → c.insert-inserted.new.self.items ≡ insert c.self.inside.pairs.items c.in-Err.at (c.args.key, c.args.place)
put c = c.insert-inserted.ensures.items ∙ ap (λ b. if b then insert c.self.inside.pairs.items c.in-Err.at (c.args.key, c.args.place) else c.self.inside.pairs.items) (sym c.if-prove.ensures.value)

pub invariant_of-self-in-Err : goal.invariant_of-self-in-Err
invariant_of-self-in-Err c =
    let seen : c.self.inside.pairs.items ≡ c.args.self.now.entries = ap (λ (v : PlacesState). v.entries) c.self.view_is in
    let gap = subst (λ l. IsGapFor l c.args.key c.in-Err.at) (sym seen) c.in-Err.ensures.absent in
    subst IsRising (sym (put c)) (rising_insert _ _ _ gap _ c.self.invariant)

pub returns-in-Err-clause-places : goal.returns-in-Err-clause-places
returns-in-Err-clause-places c =
    let seen : c.self.inside.pairs.items ≡ c.args.self.now.entries = ap (λ (v : PlacesState). v.entries) c.self.view_is in
    rw (put c, seen) (lookup_insert _ _ _ c.in-Err.ensures.absent _)

pub returns-in-Err-clause-len : goal.returns-in-Err-clause-len
returns-in-Err-clause-len c =
    let seen : c.self.inside.pairs.items ≡ c.args.self.now.entries = ap (λ (v : PlacesState). v.entries) c.self.view_is in
    rw (put c, seen, lookup_gap _ _ _ c.in-Err.ensures.absent) (length-insert _ _ _ c.in-Err.ensures.absent.in_range)

pub returns-in-Err-clause-capacity : goal.returns-in-Err-clause-capacity
returns-in-Err-clause-capacity c =
    let same = c.insert-inserted.ensures.in_place (room c.self.inside _ _ _ c.self.view_is c.in-Err.ensures.absent c.requires) in
    same.1.0 ∙ ap (λ (v : PlacesState). v.capacity) c.self.view_is
