-- Where no two blocks have one stamp, each is found by its own.
use Rattle.std.proofs.Common.{◌≡◌, ◌||◌, Bool, true, false, cond, List, [], ◌∷◌, find, Some, refl, ap, ◌∙◌, true≢false}
use Rattle.std.specs.List.{All, AllByRecursion, list_any}
use Rattle.std.proofs.lemmas.List.Elements.{All-from_recursion}
use Rattle.dubp_resolve.specs.declared.view.Offered.{Offered}
use Rattle.dubp_atoms.specs.Same.{same_stamp}
use Rattle.dubp_resolve.specs.Choice.{has_stamp}
use Rattle.dubp_resolve.specs.Known.{AreApart, IsFound}
use Rattle.dubp_resolve.proofs.Stamps.{own_stamp, stamps}

left : (a b : Bool) → (a || b) ≡ false → a ≡ false
left true b e = absurd (true≢false e)
left false b e = refl

right : (a b : Bool) → (a || b) ≡ false → b ≡ false
right true b e = absurd (true≢false e)
right false b e = e

behind_one : (b : Offered) (bs xs : List Offered) → list_any (has_stamp b.stamp) xs ≡ false → AllByRecursion (IsFound bs) xs → AllByRecursion (IsFound (b ∷ bs)) xs
behind_one b bs [] e all = tt
behind_one b bs (x ∷ xs) e all = (
  ap (λ r. cond r (Some b) (find (has_stamp x.stamp) bs)) (stamps.symm x.stamp b.stamp ∙ left (same_stamp b.stamp x.stamp) _ e) ∙ all.0,
  behind_one b bs xs (right (same_stamp b.stamp x.stamp) _ e) all.1,
)

each_found : (bs : List Offered) → AreApart bs → AllByRecursion (IsFound bs) bs
each_found [] a = tt
each_found (b ∷ bs) a = (ap (λ r. cond r (Some b) (find (has_stamp b.stamp) bs)) (own_stamp b.stamp), behind_one b bs bs a.0 (each_found bs a.1))

pub found_apart : (bs : List Offered) → AreApart bs → All (IsFound bs) bs
found_apart bs a = All-from_recursion (IsFound bs) bs (each_found bs a)
