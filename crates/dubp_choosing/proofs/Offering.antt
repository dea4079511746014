-- How an offer goes on.
use Rattle.std.proofs.Common.{◌≡◌, ℕ, ◌<◌, ◌&&◌, ◌||◌, Bool, true, false, not, cond, List, [], ◌∷◌, ◌++◌, length, refl, sym, ap, subst, ◌∙◌, true≢false, arith}
use Rattle.std.specs.Prelude.{MatchBool, nat_lt}
use Rattle.std.specs.List.{list_any}
use Rattle.std.proofs.lemmas.Bool.Decides.{nat_tests}
use Rattle.dubp_atoms.specs.declared.stamp.Stamp.{Stamp}
use Rattle.dubp_block.specs.declared.block.Block.{Block}
use Rattle.dubp_block.specs.Text.{stamp_of}
use Rattle.dubp_resolve.proofs.Stamps.{own_stamp}
use Rattle.dubp_replay.specs.Turns.{Branches, Chooses, OfferGoesOn, OfferTurn, State, branches_of, is_stamped, onward, without}

in_true : (x : Bool) (P Q : Type 0) → x ≡ true → P → MatchBool x P Q
in_true true P Q e p = p
in_true false P Q e p = absurd (true≢false (sym e))

in_false : (x : Bool) (P Q : Type 0) → x ≡ false → Q → MatchBool x P Q
in_false true P Q e q = absurd (true≢false e)
in_false false P Q e q = q

and_false : (a b : Bool) → b ≡ false → (a && b) ≡ false
and_false true b e = e
and_false false b e = refl

is_less : (n m : ℕ) → n < m → nat_lt n m ≡ true
is_less n m l = grind (arith, nat_tests)

is_no_less : (n : ℕ) → nat_lt n n ≡ false
is_no_less n = grind (arith, nat_tests)

-- no more blocks are stored than before
pub goes_aside : (old new : State) (bytes answer : List ℕ) (b : Branches) → OfferTurn (branches_of old) bytes answer b → b.store ≡ old.store → new ≡ onward old b → OfferGoesOn old bytes answer new
goes_aside old new bytes answer b turn same is = record {
  first = answer;
  branches = b;
  offers = turn;
  goes_on = in_false _ _ _ (and_false old.auto _ (ap (λ (s : List Block). nat_lt (length old.store) (length s)) same ∙ is_no_less (length old.store))) (refl, is);
}

-- the node does not choose by itself
pub goes_quietly : (old new : State) (bytes answer : List ℕ) (b : Branches) → OfferTurn (branches_of old) bytes answer b → old.auto ≡ false → new ≡ onward old b → OfferGoesOn old bytes answer new
goes_quietly old new bytes answer b turn off is = record {
  first = answer;
  branches = b;
  offers = turn;
  goes_on = in_false _ _ _ (ap (λ a. a && nat_lt (length old.store) (length b.store)) off) (refl, is);
}

-- the node chooses
pub goes_choosing : (old new : State) (bytes first answer : List ℕ) (b : Branches) → OfferTurn (branches_of old) bytes first b → old.auto ≡ true → length old.store < length b.store → Chooses first (onward old b) answer new
    → OfferGoesOn old bytes answer new
goes_choosing old new bytes first answer b turn on more chooses = record {
  first = first;
  branches = b;
  offers = turn;
  goes_on = in_true _ _ _ (ap (λ a. a && nat_lt (length old.store) (length b.store)) on ∙ is_less (length old.store) (length b.store) more) chooses;
}

or_left : (a b : Bool) → (a || b) ≡ false → a ≡ false
or_left true b e = e
or_left false b e = refl

or_right : (a b : Bool) → (a || b) ≡ false → b ≡ false
or_right true b e = absurd (true≢false e)
or_right false b e = e

-- a block that came last and that no other has the stamp of leaves the others
pub without_last : (stamp : Stamp) (store : List Block) (b : Block) → stamp ≡ stamp_of b → list_any (is_stamped stamp) store ≡ false → without stamp (store ++ b ∷ []) ≡ store
without_last stamp [] b is none = ap (λ r. cond (not r) (b ∷ []) []) (subst (λ s. is_stamped s b ≡ true) (sym is) (own_stamp (stamp_of b)))
without_last stamp (d ∷ store) b is none =
    ap (λ r. cond (not r) (d ∷ without stamp (store ++ b ∷ [])) (without stamp (store ++ b ∷ []))) (or_left (is_stamped stamp d) _ none)
    ∙ ap (λ l. d ∷ l) (without_last stamp store b is (or_right (is_stamped stamp d) _ none))
