-- Two stamps that are told to be one are equal; and what the words of stores say in those of lists with keys.
use Rattle.std.proofs.Common.{◌≡◌, ◌+◌, ◌<◌, ◌≤◌, ◌&&◌, ◌||◌, ◌==◌, Bool, true, false, not, cond, List, [], ◌∷◌, length, Some, None, is_some, position, refl, sym, ap, subst, ◌∙◌, true≢false, arith, lt-ltb, le-ltb}
use Rattle.std.specs.Cmp.{IsEquivalence}
use Rattle.std.specs.List.{list_any, position_or_len}
use Rattle.std.proofs.lemmas.Bool.Decides.{Decides-eqb}
use Rattle.dubp_atoms.specs.Same.{same_text, same_stamp}
use Rattle.dubp_atoms.specs.declared.stamp.Stamp.{Stamp}
use Rattle.dubp_block.specs.declared.block.Block.{Block}
use Rattle.dubp_block.specs.Text.{stamp_of}
use Rattle.dubp_lists.proofs.Elements.{and_left, and_right}
use Rattle.dubp_lists.proofs.InOrder.{same_text_is, same_text_own}
use Rattle.dubp_forks.specs.Entries.{entries_of, blocks_in}
use Rattle.dubp_forks.specs.Stores as stores
use Rattle.dubp_forks.proofs.Keyed as lists

pub number_is : (s t : Stamp) → same_stamp s t ≡ true → s.number ≡ t.number
number_is s t e = (Decides-eqb s.number t.number).0 (and_left (s.number == t.number) _ e)

pub same_is : (s t : Stamp) → same_stamp s t ≡ true → s ≡ t
same_is s t e =
    let n = number_is s t e in
    let h = same_text_is s.hash t.hash (and_right (s.number == t.number) _ e) in
    λ i. record { number = n i; hash = h i }

pub own_stamp : (s : Stamp) → same_stamp s s ≡ true
own_stamp s = ap (λ b. b && same_text s.hash s.hash) ((Decides-eqb s.number s.number).1 refl) ∙ same_text_own s.hash

-- a test that tells exactly what is one is an equivalence
is_equivalence : {K : Type 0} (E : K → K → Bool) → ((x y : K) → E x y ≡ true → x ≡ y) → ((x : K) → E x x ≡ true) → IsEquivalence E
is_equivalence {K} E is own = record {
  refl = own;
  symm = λ x y.
      elim (E x y) as (λ r. E x y ≡ r → r ≡ E y x) [
        | true ↦ λ e. sym (subst (λ (z : K). E z x ≡ true) (is x y e) (own x))
        | false ↦ λ e.
            elim (E y x) as (λ r. E y x ≡ r → false ≡ r) [
              | true ↦ λ f. absurd (true≢false (sym (subst (λ (z : K). E z y ≡ true) (is y x f) (own y)) ∙ e))
              | false ↦ λ f. refl
            ] refl
      ] refl;
  congr = λ x y z e. ap (λ w. E w z) (is x y e);
}

pub stamps : IsEquivalence same_stamp
stamps = is_equivalence same_stamp same_is own_stamp

-- ---- the words of stores
pub apart_of : (bs : List Block) → stores.AreApart bs → lists.AreApart same_stamp stamp_of bs
apart_of [] a = tt
apart_of (b ∷ bs) a = (a.0, apart_of bs a.1)

pub of_apart : (bs : List Block) → lists.AreApart same_stamp stamp_of bs → stores.AreApart bs
of_apart [] a = tt
of_apart (b ∷ bs) a = (a.0, of_apart bs a.1)

pub blocks_in-entries_of : (bs : List Block) → blocks_in (entries_of bs) ≡ bs
blocks_in-entries_of [] = refl
blocks_in-entries_of (b ∷ bs) = ap (λ l. b ∷ l) (blocks_in-entries_of bs)

-- the place of one that passes is told exactly where one does
pub is_some-position : {X : Type 0} (test : X → Bool) (xs : List X) → is_some (position test xs) ≡ list_any test xs
is_some-position {X} test xs =
    elim (list_any test xs) as (λ r. list_any test xs ≡ r → is_some (position test xs) ≡ r) [
      | true ↦ λ e. ap (λ r. is_some (cond r (Some (position_or_len test xs)) None)) (lt-ltb _ _ (within xs e))
      | false ↦ λ e. ap (λ r. is_some (cond r (Some (position_or_len test xs)) None)) (le-ltb _ _ (past xs e))
    ] refl
  where
    within : (ys : List X) → list_any test ys ≡ true → position_or_len test ys < length ys
    within [] e = absurd (true≢false (sym e))
    within (y ∷ ys) e =
        elim (test y) as (λ r. (r || list_any test ys) ≡ true → cond (not r) (1 + position_or_len test ys) 0 < length (y ∷ ys)) [
          | true ↦ λ h. omega arith
          | false ↦ λ h. let w = within ys h in omega arith
        ] e

    past : (ys : List X) → list_any test ys ≡ false → length ys ≤ position_or_len test ys
    past [] e = omega arith
    past (y ∷ ys) e =
        elim (test y) as (λ r. (r || list_any test ys) ≡ false → length (y ∷ ys) ≤ cond (not r) (1 + position_or_len test ys) 0) [
          | true ↦ λ h. absurd (true≢false h)
          | false ↦ λ h. let w = past ys h in omega arith
        ] e
