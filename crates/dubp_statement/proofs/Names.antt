-- The names of sources: the test by which the code finds one is the one of the definitions.
use Rattle.std.proofs.Common.{◌≡◌, ℕ, Bool, true, false, cond, ◌||◌, ◌&&◌, List, [], ◌∷◌, ◌==◌, eq-eqb, eqb-true, refl, sym, ◌∙◌, subst}
use Rattle.std.specs.List.{list_any}
use Rattle.dubp_atoms.specs.Same.{Text, same_text}
use Rattle.dubp_atoms.proofs.Same.{same_text_is, same_text_own}
use Rattle.dubp_chain.specs.OfCond.{SourceId, D, T}
use Rattle.dubp_chain.specs.Money.{same_source}

-- tests that say the same the other way round
module _ {X : Type 0} (test : X → X → Bool) (is : (x y : X) → test x y ≡ true → x ≡ y) (own : (x : X) → test x x ≡ true) where
  turned : (x y : X) → test x y ≡ test y x
  turned x y = elim (test x y) as (λ r. test x y ≡ r → r ≡ test y x) [
    | true ↦ λ e. sym (subst (λ z. test z x ≡ true) (is x y e) (own x))
    | false ↦ λ e. elim (test y x) as (λ r. test y x ≡ r → false ≡ r) [ true ↦ λ f. sym e ∙ subst (λ z. test z y ≡ true) (is y x f) (own y) | false ↦ λ f. refl ] refl
  ] refl

pub text_turned : (x y : Text) → same_text x y ≡ same_text y x
text_turned = turned same_text same_text_is same_text_own

number_is : (n m : ℕ) → n == m ≡ true → n ≡ m
number_is n m e = eqb-true n m e

number_own : (n : ℕ) → n == n ≡ true
number_own n = eq-eqb n n refl

number_turned : (n m : ℕ) → (n == m) ≡ (m == n)
number_turned = turned (λ n m. n == m) number_is number_own

pub source_turned : (a b : SourceId) → same_source a b ≡ same_source b a
source_turned (D k n) (D l m) = λ i. text_turned k l i && number_turned n m i
source_turned (T k n) (T l m) = λ i. text_turned k l i && number_turned n m i
source_turned (D k n) (T l m) = refl
source_turned (T k n) (D l m) = refl

-- the test that the code derives
module _ (eq : SourceId → SourceId → Bool)
    (d_d : (k : List ℕ) (b : ℕ) (l : List ℕ) (n : ℕ) → eq (D k b) (D l n) ≡ same_source (D k b) (D l n))
    (t_t : (k : List ℕ) (b : ℕ) (l : List ℕ) (n : ℕ) → eq (T k b) (T l n) ≡ same_source (T k b) (T l n))
    (d_t : (k : List ℕ) (b : ℕ) (l : List ℕ) (n : ℕ) → eq (D k b) (T l n) ≡ false)
    (t_d : (k : List ℕ) (b : ℕ) (l : List ℕ) (n : ℕ) → eq (T k b) (D l n) ≡ false) where
  alike : (x y : SourceId) → eq x y ≡ same_source x y
  alike (D k b) (D l n) = d_d k b l n
  alike (T k b) (T l n) = t_t k b l n
  alike (D k b) (T l n) = d_t k b l n
  alike (T k b) (D l n) = t_d k b l n

  pub found : (x : SourceId) (names : List SourceId) → list_any (eq x) names ≡ list_any (λ name. same_source name x) names
  found x [] = refl
  found x (name ∷ names) = λ i. (alike x name ∙ source_turned x name) i || found x names i

  by_cond : (a b : Bool) → cond a true b ≡ (b || a)
  by_cond true true = refl
  by_cond true false = refl
  by_cond false true = refl
  by_cond false false = refl

  -- one name more
  pub put : (source x : SourceId) (old new : List SourceId) → list_any (eq x) new ≡ cond (eq source x) true (list_any (eq x) old)
      → list_any (λ name. same_source name x) new ≡ (list_any (λ name. same_source name x) old || same_source source x)
  put source x old new e = sym (found x new) ∙ e ∙ by_cond (eq source x) (list_any (eq x) old) ∙ (λ i. found x old i || alike source x i)
