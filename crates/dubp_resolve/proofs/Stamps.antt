-- Two stamps that are told to be one are equal.
use Rattle.std.proofs.Common.{◌≡◌, ◌&&◌, ◌||◌, ◌==◌, Bool, true, false, cond, refl, sym, ap, subst, ◌∙◌, true≢false}
use Rattle.std.specs.Cmp.{IsEquivalence}
use Rattle.std.proofs.lemmas.Bool.Decides.{Decides-eqb}
use Rattle.dubp_atoms.specs.declared.stamp.Stamp.{Stamp}
use Rattle.dubp_atoms.specs.Same.{same_stamp, same_text}
use Rattle.dubp_atoms.proofs.Same.{same_text_is, same_text_own}

and_left : (a b : Bool) → (a && b) ≡ true → a ≡ true
and_left true b e = refl
and_left false b e = e

and_right : (a b : Bool) → (a && b) ≡ true → b ≡ true
and_right true b e = e
and_right false b e = absurd (true≢false (sym e))

pub same_is : (s t : Stamp) → same_stamp s t ≡ true → s ≡ t
same_is s t e =
    let n = (Decides-eqb s.number t.number).0 (and_left (s.number == t.number) _ e) in
    let h = same_text_is s.hash t.hash (and_right (s.number == t.number) _ e) in
    λ i. record { number = n i; hash = h i }

pub own_stamp : (s : Stamp) → same_stamp s s ≡ true
own_stamp s = ap (λ b. b && same_text s.hash s.hash) ((Decides-eqb s.number s.number).1 refl) ∙ same_text_own s.hash

-- a test that tells exactly what is one is an equivalence
is_equivalence : {K : Type 0} (E : K → K → Bool) → ((x y : K) → E x y ≡ true → x ≡ y) → ((x : K) → E x x ≡ true) → IsEquivalence E
is_equivalence {K} E is own = record {
  refl = own;
  symm = λ x y.
      elim (E x y) as (λ r. E x y ≡ r → r ≡ E y x) [
        | true ↦ λ e. sym (subst (λ (z : K). E z x ≡ true) (is x y e) (own x))
        | false ↦ λ e.
            elim (E y x) as (λ r. E y x ≡ r → false ≡ r) [
              | true ↦ λ f. absurd (true≢false (sym (subst (λ (z : K). E z y ≡ true) (is y x f) (own y)) ∙ e))
              | false ↦ λ f. refl
            ] refl
      ] refl;
  congr = λ x y z e. ap (λ w. E w z) (is x y e);
}

pub stamps : IsEquivalence same_stamp
stamps = is_equivalence same_stamp same_is own_stamp

pub or_cond : (r x : Bool) → cond r true x ≡ (r || x)
or_cond true x = refl
or_cond false x = refl
