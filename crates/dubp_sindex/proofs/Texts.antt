-- The texts of keys in a set that keeps the order in which they came.
use Rattle.std.proofs.Common.{◌≡◌, ℕ, ◌+◌, ◌<◌, IfSome, true, false, cond, not, ◌||◌, List, [], ◌∷◌, ◌++◌, length, Some, None, refl, ap, sym, subst, ◌∙◌, true≢false, nat_lt, arith}
use Rattle.std.specs.List.{list_any, position_or_len}
use Rattle.std.proofs.lemmas.Option.{none-some}
use Rattle.std.proofs.lemmas.Bool.{lt-ltb, ltb-true}
use Rattle.dubp_atoms.specs.Same.{Text, same_text}
use Rattle.indexmap.specs.IndexMap.{IndexMap, get}
use Rattle.dubp_sindex.specs.Numbering.{AreNumbers, number_of, signed_text, with_text}
use Rattle.dubp_sindex.proofs.Sources.{same_text_is}
use Rattle.dubp_sindex.proofs.Elements.{is_false, or_left, or_right}

-- the number of a text that is there, and that one with a number is there
module _ (t : Text) where
  none : (xs : List Text) → list_any (same_text t) xs ≡ false → position_or_len (same_text t) xs ≡ length xs
  none [] e = refl
  none (x ∷ xs) e = let other = or_left (same_text t x) (list_any (same_text t) xs) e in rw other (omega (arith, none xs (or_right (same_text t x) (list_any (same_text t) xs) e)))

  itself : (m : ℕ) → nat_lt m m ≡ false
  itself m = is_false (nat_lt m m) (λ less. omega (arith, ltb-true m m less))

  lacks : (xs : List Text) → position_or_len (same_text t) xs ≡ length xs → number_of xs t ≡ None
  lacks xs e = ap (λ m. cond (nat_lt m (length xs)) (Some m) None) e ∙ ap (λ b. cond b (Some (length xs)) None) (itself (length xs))

  pub text_there : (xs : List Text) (n : ℕ) → number_of xs t ≡ Some n → list_any (same_text t) xs ≡ true
  text_there xs n is =
      elim (list_any (same_text t) xs) as (λ r. list_any (same_text t) xs ≡ r → r ≡ true) [
        | true ↦ λ _. refl
        | false ↦ λ e. absurd (none-some n (sym (lacks xs (none xs e)) ∙ is))
      ] refl

  place_within : (xs : List Text) → list_any (same_text t) xs ≡ true → position_or_len (same_text t) xs < length xs
  place_within [] e = absurd (true≢false (sym e))
  place_within (x ∷ xs) e =
      elim (same_text t x) as (λ r. (r || list_any (same_text t) xs) ≡ true → cond (not r) (1 + position_or_len (same_text t) xs) 0 < length (x ∷ xs)) [
        | true ↦ λ _. omega arith
        | false ↦ λ later. omega (arith, place_within xs later)
      ] e

  pub number_there : (xs : List Text) → list_any (same_text t) xs ≡ true → number_of xs t ≡ Some (position_or_len (same_text t) xs)
  number_there xs e = ap (λ b. cond b (Some (position_or_len (same_text t) xs)) None) (lt-ltb (position_or_len (same_text t) xs) (length xs) (place_within xs e))

  pub place_stays : (xs more : List Text) → list_any (same_text t) xs ≡ true → position_or_len (same_text t) (xs ++ more) ≡ position_or_len (same_text t) xs
  place_stays [] more e = absurd (true≢false (sym e))
  place_stays (x ∷ xs) more e =
      elim (same_text t x) as (λ r. (r || list_any (same_text t) xs) ≡ true → cond (not r) (1 + position_or_len (same_text t) (xs ++ more)) 0 ≡ cond (not r) (1 + position_or_len (same_text t) xs) 0) [
        | true ↦ λ _. refl
        | false ↦ λ later. ap (λ n. 1 + n) (place_stays xs more later)
      ] e

  pub any_more : (xs more : List Text) → list_any (same_text t) xs ≡ true → list_any (same_text t) (xs ++ more) ≡ true
  any_more [] more e = absurd (true≢false (sym e))
  any_more (x ∷ xs) more e =
      elim (same_text t x) as (λ r. (r || list_any (same_text t) xs) ≡ true → (r || list_any (same_text t) (xs ++ more)) ≡ true) [ true ↦ λ _. refl | false ↦ λ later. any_more xs more later ] e

  -- one that is put last has the number of those before it
  last_there : (xs : List Text) → list_any (same_text t) xs ≡ false → same_text t t ≡ true → position_or_len (same_text t) (xs ++ t ∷ []) ≡ position_or_len (same_text t) xs
  last_there [] e own = ap (λ r. cond (not r) 1 0) own
  last_there (x ∷ xs) e own =
      let other = or_left (same_text t x) (list_any (same_text t) xs) e in
      rw other (ap (λ n. 1 + n) (last_there xs (or_right (same_text t x) (list_any (same_text t) xs) e) own))

  any_last : (xs : List Text) → same_text t t ≡ true → list_any (same_text t) (xs ++ t ∷ []) ≡ true
  any_last [] own = ap (λ r. r || false) own
  any_last (x ∷ xs) own =
      elim (same_text t x) as (λ r. (r || list_any (same_text t) (xs ++ t ∷ [])) ≡ true) [ true ↦ refl | false ↦ any_last xs own ]

-- one that has a number changes nothing
pub with_text-there : (texts : List Text) (t : Text) (n : ℕ) → number_of texts t ≡ Some n → texts ≡ with_text texts t
with_text-there texts t n is = sym (ap (λ r. cond r texts (texts ++ t ∷ [])) (text_there t texts n is))

-- a text has the number that its key has behind the call
pub number_is : (texts : List Text) (t : Text) (n : ℕ) → n ≡ position_or_len (same_text t) texts → (same_text t t ≡ true) → number_of (with_text texts t) t ≡ Some n
number_is texts t n is own =
    elim (list_any (same_text t) texts) as (λ r. list_any (same_text t) texts ≡ r → number_of (cond r texts (texts ++ t ∷ [])) t ≡ Some n) [
      | true ↦ λ e. number_there t texts e ∙ ap Some (sym is)
      | false ↦ λ e. number_there t (texts ++ t ∷ []) (any_last t texts own) ∙ ap Some (last_there t texts e own ∙ sym is)
    ] refl

-- a text keeps its number when another is put
pub number_stays : (texts : List Text) (u t : Text) (n : ℕ) → number_of texts t ≡ Some n → number_of (with_text texts u) t ≡ Some n
number_stays texts u t n is =
    elim (list_any (same_text u) texts) as (λ r. number_of (cond r texts (texts ++ u ∷ [])) t ≡ Some n) [
      | true ↦ is
      | false ↦
          let here = text_there t texts n is in
          number_there t (texts ++ u ∷ []) (any_more t texts (u ∷ []) here) ∙ ap Some (place_stays t texts (u ∷ []) here) ∙ sym (number_there t texts here) ∙ is
    ]

-- and so do all keys that a map has the numbers of
pub numbers_stay : {S : Type 0} (signed : IndexMap Text ℕ S) (texts : List Text) (u : Text) → AreNumbers signed texts → AreNumbers signed (with_text texts u)
numbers_stay signed texts u are key =
    elim (get same_text signed key) as (λ r. IfSome r (λ n. number_of texts (signed_text key) ≡ Some n) → IfSome r (λ n. number_of (with_text texts u) (signed_text key) ≡ Some n)) [
      | None ↦ λ is. is
      | Some n ↦ λ is. number_stays texts u (signed_text key) n is
    ] (are key)

-- with one key more that has the number of its condition
pub numbers_with : {S : Type 0} (signed signed' : IndexMap Text ℕ S) (texts : List Text) (key : Text) (n : ℕ) → number_of texts (signed_text key) ≡ Some n
    → ((k : Text) → get same_text signed' k ≡ cond (same_text key k) (Some n) (get same_text signed k)) → AreNumbers signed texts → AreNumbers signed' texts
numbers_with signed signed' texts key n is put are k =
    subst (λ found. IfSome found (λ m. number_of texts (signed_text k) ≡ Some m)) (sym (put k))
    (elim (same_text key k) as (λ r. same_text key k ≡ r → IfSome (cond r (Some n) (get same_text signed k)) (λ m. number_of texts (signed_text k) ≡ Some m)) [
      | true ↦ λ same. ap (λ x. number_of texts (signed_text x)) (sym (same_text_is key k same)) ∙ is
      | false ↦ λ _. are k
    ] refl)
