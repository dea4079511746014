-- What is asked of the keys of lines, said of the lines.
use Rattle.std.proofs.Common.{◌≡◌, ◌↔◌, ℕ, Bool, true, false, not, ◌&&◌, IsTrue, List, [], ◌∷◌, map, Result, Ok, Err, IfOk, refl, ap, sym, ◌∙◌, true≢false}
use Rattle.std.specs.List.{AllByRecursion, list_all, list_any}
use Rattle.std.proofs.lemmas.List.Folds.{list_all-map}
use Rattle.dubp_cond.specs.declared.source.SourceId.{SourceId}
use Rattle.dubp_cond.specs.declared.source.SourceId.TheVariants.{D, T}
use Rattle.dubp_validity.specs.OfChain.{same_source}
use Rattle.dubp_validity.specs.OfChain.{each_once}
use Rattle.dubp_lists.proofs.Elements.{list_any-map}
use Rattle.dubp_lists.proofs.Once.{each_once-map}

-- what holds where a call succeeds gives what follows from it there
pub where_ok : {A E : Type 0} {P Q : A → Type 0} (r : Result A E) → IfOk r P → ((a : A) → P a → Q a) → IfOk r Q
where_ok (Ok a) p more = more a p
where_ok (Err e) p more = tt

-- a fact that holds beside what an answer says
pub and_also : {P A : Type 0} {b : Bool} → P → (IsTrue b ↔ A) → IsTrue b ↔ (P × A)
and_also p says = (λ holds. (p, says.0 holds), λ both. says.1 both.1)

-- an answer on the keys of lines, where the lines do not stand twice by their keys
pub once_by : {X K : Type 0} (eq : K → K → Bool) (key : X → K) (xs : List X) (values : List K) (once : Bool)
    → values ≡ map key xs → once ≡ each_once eq values → IsTrue once ↔ IsTrue (each_once (λ x y. eq (key x) (key y)) xs)
once_by eq key xs values once are e =
    let same : once ≡ each_once (λ x y. eq (key x) (key y)) xs = e ∙ ap (each_once eq) are ∙ each_once-map eq key xs in
    (λ holds. sym same ∙ holds, λ stands. same ∙ stands)

-- a test of sources by their fields, and its answer on a list
module _ (eq : SourceId → SourceId → Bool) (sources values : List SourceId) (once : Bool) (e : once ≡ each_once eq values) (are : values ≡ sources)
    (d_d : (k : List ℕ) (b : ℕ) (l : List ℕ) (n : ℕ) → eq (D k b) (D l n) ≡ same_source (D k b) (D l n))
    (t_t : (k : List ℕ) (b : ℕ) (l : List ℕ) (n : ℕ) → eq (T k b) (T l n) ≡ same_source (T k b) (T l n))
    (d_t : (k : List ℕ) (b : ℕ) (l : List ℕ) (n : ℕ) → eq (D k b) (T l n) ≡ false)
    (t_d : (k : List ℕ) (b : ℕ) (l : List ℕ) (n : ℕ) → eq (T k b) (D l n) ≡ false) where
  alike : (x y : SourceId) → eq x y ≡ same_source x y
  alike (D k b) (D l n) = d_d k b l n
  alike (T k b) (T l n) = t_t k b l n
  alike (D k b) (T l n) = d_t k b l n
  alike (T k b) (D l n) = t_d k b l n

  pub sources_once : IsTrue once ↔ IsTrue (each_once same_source sources)
  sources_once =
      let same : once ≡ each_once same_source sources = e ∙ ap (each_once eq) are ∙ (λ i. each_once (λ x y. alike x y i) sources) in
      (λ holds. sym same ∙ holds, λ stands. same ∙ stands)

-- each element passes where the test of the list says so
pub all_pass : {X : Type 0} (p : X → Bool) (xs : List X) → list_all p xs ≡ true → AllByRecursion (λ x. IsTrue (p x)) xs
all_pass p [] e = tt
all_pass p (x ∷ xs) e = elim (p x) as (λ b. (b && list_all p xs) ≡ true → (b ≡ true) × AllByRecursion (λ y. IsTrue (p y)) xs) [
  | true ↦ λ h. (refl, all_pass p xs h)
  | false ↦ λ h. absurd (true≢false (sym h))
] e

pub pass_all : {X : Type 0} (p : X → Bool) (xs : List X) → AllByRecursion (λ x. IsTrue (p x)) xs → list_all p xs ≡ true
pass_all p [] all = refl
pass_all p (x ∷ xs) all = ap (λ b. b && list_all p xs) all.0 ∙ pass_all p xs all.1

-- an answer on all elements, where another test answers alike
pub answers : {X : Type 0} (p q : X → Bool) (xs : List X) (b : Bool)
    → b ≡ list_all p xs → ((x : X) → p x ≡ q x) → IsTrue b ↔ AllByRecursion (λ x. IsTrue (q x)) xs
answers p q xs b e alike =
    let same : b ≡ list_all q xs = e ∙ (λ i. list_all (λ x. alike x i) xs) in
    (λ holds. all_pass q xs (sym same ∙ holds), λ all. same ∙ pass_all q xs all)

-- each line has one of the others with its key
pub among_by : {X Y K : Type 0} (eq : K → K → Bool) (key : X → K) (name : Y → K) (xs : List X) (ys : List Y) (values others : List K) (b : Bool)
    → values ≡ map key xs → others ≡ map name ys → b ≡ list_all (λ v. list_any (eq v) others) values
    → IsTrue b ↔ AllByRecursion (λ x. IsTrue (list_any (λ y. eq (key x) (name y)) ys)) xs
among_by eq key name xs ys values others b are named e =
    answers (λ x. list_any (eq (key x)) (map name ys)) (λ x. list_any (λ y. eq (key x) (name y)) ys) xs b
    (e ∙ (λ i. list_all (λ v. list_any (eq v) (named i)) (are i)) ∙ list_all-map (λ v. list_any (eq v) (map name ys)) key xs)
    (λ x. list_any-map (eq (key x)) name ys)

-- no line has one of the others with its key
pub apart_by : {X Y K : Type 0} (eq : K → K → Bool) (key : X → K) (name : Y → K) (xs : List X) (ys : List Y) (values others : List K) (b : Bool)
    → values ≡ map key xs → others ≡ map name ys → b ≡ list_all (λ v. not (list_any (eq v) others)) values
    → IsTrue b ↔ AllByRecursion (λ x. IsTrue (not (list_any (λ y. eq (key x) (name y)) ys))) xs
apart_by eq key name xs ys values others b are named e =
    answers (λ x. not (list_any (eq (key x)) (map name ys))) (λ x. not (list_any (λ y. eq (key x) (name y)) ys)) xs b
    (e ∙ (λ i. list_all (λ v. not (list_any (eq v) (named i))) (are i)) ∙ list_all-map (λ v. not (list_any (eq v) (map name ys))) key xs)
    (λ x. ap not (list_any-map (eq (key x)) name ys))

pub map-itself : {X : Type 0} (xs : List X) → map (λ x. x) xs ≡ xs
map-itself [] = refl
map-itself (x ∷ xs) = ap (λ l. x ∷ l) (map-itself xs)
