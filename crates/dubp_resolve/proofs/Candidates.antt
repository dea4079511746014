-- What is chosen is stored, and is a candidate.
use Rattle.std.proofs.Common.{◌≡◌, ℕ, ◌≤◌, ◌+◌, ◌&&◌, Bool, true, false, not, List, [], ◌∷◌, ◌++◌, nat_le, Some, refl, sym, subst, true≢false, arith}
use Rattle.std.specs.List.{AllByRecursion}
use Rattle.std.proofs.lemmas.Bool.Decides.{nat_tests}
use Rattle.std.proofs.lemmas.List.Elements.{recursion_from_All}
use Rattle.dubp_resolve.specs.declared.view.Offered.{Offered}
use Rattle.dubp_resolve.specs.Choice.{Choices, IsChoice, IsGreatest, behind, choice, has_failed, is_detached, most_stored, path_of, stored, stored_then}
use Rattle.dubp_resolve.specs.Known.{AreOffers, IsFound}
use Rattle.dubp_resolve.proofs.Greatest.{choice_is}

pub record IsChosen (v : Choices) (b : Offered) : Type 0 where
  pub found : stored v.offers b.stamp ≡ Some b
  pub longer : v.length + 2 ≤ b.stamp.number
  pub joins : is_detached v (path_of v b) ≡ false
  pub deep : behind v (path_of v b) ≤ v.kept
  pub fits : stored_then v (path_of v b) ≤ most_stored
  pub sound : has_failed v (path_of v b) ≡ false

at_most : (n m : ℕ) → nat_le n m ≡ true → n ≤ m
at_most n m e = grind (arith, nat_tests)

parts : (n d k s f : Bool) → (n && (not d && (k && (s && not f)))) ≡ true → (n ≡ true) × (d ≡ false) × (k ≡ true) × (s ≡ true) × (f ≡ false)
parts true false true true false e = (refl, refl, refl, refl, refl)
parts true false true true true e = absurd (true≢false (sym e))
parts true false true false f e = absurd (true≢false (sym e))
parts true false false s f e = absurd (true≢false (sym e))
parts true true k s f e = absurd (true≢false (sym e))
parts false d k s f e = absurd (true≢false (sym e))

all_at : {X : Type 0} (P : X → Type 0) (before : List X) (x : X) (after : List X) → AllByRecursion P (before ++ x ∷ after) → P x
all_at P [] x after all = all.0
all_at P (y ∷ before) x after all = all_at P before x after all.1

pub chosen_is : (v : Choices) → AreOffers v.offers → (b : Offered) → choice v ≡ Some b → IsChosen v b
chosen_is v offers b e =
    let is : IsGreatest v v.offers b = subst (IsChoice v) e (choice_is v) in
    let p = parts (nat_le (v.length + 2) b.stamp.number) (is_detached v (path_of v b)) (nat_le (behind v (path_of v b)) v.kept) (nat_le (stored_then v (path_of v b)) most_stored) (has_failed v (path_of v b)) is.candidate in
    record {
      found = all_at (IsFound v.offers) is.before b is.after (subst (AllByRecursion (IsFound v.offers)) is.stands (recursion_from_All (IsFound v.offers) v.offers offers.apart));
      longer = at_most _ _ p.0;
      joins = p.1;
      deep = at_most _ _ p.2;
      fits = at_most _ _ p.3;
      sound = p.4;
    }
