-- The choice is the candidate of greatest number, the first among equals.
use Rattle.std.proofs.Common.{◌≡◌, ◌<◌, ◌≤◌, ◌&&◌, Bool, true, false, cond, List, [], ◌∷◌, ◌++◌, nat_lt, Option, Some, None, inl, inr, refl, sym, ap, subst, ◌∙◌, true≢false, arith}
use Rattle.std.specs.List.{AllByRecursion}
use Rattle.std.specs.Option.{MatchOption, option_map_or}
use Rattle.std.proofs.lemmas.List.{append_assoc, append-nil}
use Rattle.std.proofs.lemmas.Bool.{cases_lt}
use Rattle.std.proofs.lemmas.Bool.Decides.{Decides-ltb}
use Rattle.dubp_resolve.specs.declared.view.Offered.{Offered}
use Rattle.dubp_resolve.specs.Choice.{Choices, is_candidate, better, best_of, choice, EachCandidate, IsGreatest, IsChoice}

-- what was found among the blocks that were looked at
abbrev pub IsBest : Choices → List Offered → Option Offered → Type 0
IsBest v seen best = MatchOption best (AllByRecursion (λ b. is_candidate v b ≡ false) seen) (IsGreatest v seen)

all_append : {X : Type 0} (P : X → Type 0) (xs : List X) (y : X) → AllByRecursion P xs → P y → AllByRecursion P (xs ++ y ∷ [])
all_append P [] y a p = (p, tt)
all_append P (x ∷ xs) y a p = (a.0, all_append P xs y a.1 p)

all_join : {X : Type 0} (P : X → Type 0) (xs ys : List X) → AllByRecursion P xs → AllByRecursion P ys → AllByRecursion P (xs ++ ys)
all_join P [] ys a b = b
all_join P (x ∷ xs) ys a b = (a.0, all_join P xs ys a.1 b)

all_imp : {X : Type 0} (P Q : X → Type 0) → ((x : X) → P x → Q x) → (xs : List X) → AllByRecursion P xs → AllByRecursion Q xs
all_imp P Q f [] a = tt
all_imp P Q f (x ∷ xs) a = (f x a.0, all_imp P Q f xs a.1)

-- one block more that takes no place
keeps : (v : Choices) (seen : List Offered) (best : Option Offered) (b : Offered)
    → (is_candidate v b && option_map_or (λ c. nat_lt c.stamp.number b.stamp.number) best true) ≡ false → IsBest v seen best → IsBest v (seen ++ b ∷ []) best
keeps v seen None b e is =
    all_append (λ b. is_candidate v b ≡ false) seen b is (by (is_candidate v b) e)
  where
    by : (r : Bool) → (r && true) ≡ false → r ≡ false
    by true e = e
    by false e = refl
keeps v seen (Some a) b e is = record {
  before = is.before;
  after = is.after ++ b ∷ [];
  stands = ap (λ l. l ++ b ∷ []) is.stands ∙ append_assoc is.before (a ∷ is.after) (b ∷ []);
  candidate = is.candidate;
  first = is.first;
  greatest =
      all_append (λ b. is_candidate v b ≡ true → b.stamp.number ≤ a.stamp.number) is.after b is.greatest
      (λ c. low (nat_lt a.stamp.number b.stamp.number) refl (ap (λ r. r && nat_lt a.stamp.number b.stamp.number) (sym c) ∙ e));
}
  where
    low : (r : Bool) → nat_lt a.stamp.number b.stamp.number ≡ r → nat_lt a.stamp.number b.stamp.number ≡ false → b.stamp.number ≤ a.stamp.number
    low r f g = elim (cases_lt a.stamp.number b.stamp.number) as (λ _. b.stamp.number ≤ a.stamp.number) [
      | inl l ↦ absurd (true≢false (sym ((Decides-ltb a.stamp.number b.stamp.number).1 l) ∙ g))
      | inr l ↦ l
    ]

-- one block more that takes the place
takes : (v : Choices) (seen : List Offered) (best : Option Offered) (b : Offered)
    → is_candidate v b ≡ true → option_map_or (λ c. nat_lt c.stamp.number b.stamp.number) best true ≡ true → IsBest v seen best → IsGreatest v (seen ++ b ∷ []) b
takes v seen None b c e is = record {
  before = seen;
  after = [];
  stands = refl;
  candidate = c;
  first = all_imp (λ d. is_candidate v d ≡ false) (λ d. is_candidate v d ≡ true → d.stamp.number < b.stamp.number) (λ d f g. absurd (true≢false (sym g ∙ f))) seen is;
  greatest = tt;
}
takes v seen (Some a) b c e is =
    let more : a.stamp.number < b.stamp.number = (Decides-ltb a.stamp.number b.stamp.number).0 e in
    record {
      before = seen;
      after = [];
      stands = refl;
      candidate = c;
      first =
          subst (λ l. EachCandidate v (λ n. n < b.stamp.number) l) (sym is.stands)
          (all_join (λ d. is_candidate v d ≡ true → d.stamp.number < b.stamp.number) is.before (a ∷ is.after)
          (all_imp (λ d. is_candidate v d ≡ true → d.stamp.number < a.stamp.number) (λ d. is_candidate v d ≡ true → d.stamp.number < b.stamp.number) (λ d f g. let l = f g in omega arith) is.before is.first)
          (λ g. more, all_imp (λ d. is_candidate v d ≡ true → d.stamp.number ≤ a.stamp.number) (λ d. is_candidate v d ≡ true → d.stamp.number < b.stamp.number) (λ d f g. let l = f g in omega arith) is.after is.greatest));
      greatest = tt;
    }

step : (v : Choices) (seen : List Offered) (best : Option Offered) (b : Offered) → IsBest v seen best → IsBest v (seen ++ b ∷ []) (better v best b)
step v seen best b is = by (is_candidate v b) refl (option_map_or (λ c. nat_lt c.stamp.number b.stamp.number) best true) refl
  where
    by : (r : Bool) → is_candidate v b ≡ r → (s : Bool) → option_map_or (λ c. nat_lt c.stamp.number b.stamp.number) best true ≡ s → IsBest v (seen ++ b ∷ []) (better v best b)
    by true e true f =
        subst (λ t. IsBest v (seen ++ b ∷ []) (cond t (Some b) best)) (sym (ap (λ t. t && option_map_or (λ c. nat_lt c.stamp.number b.stamp.number) best true) e ∙ f)) (takes v seen best b e f is)
    by true e false f =
        let n = ap (λ t. t && option_map_or (λ c. nat_lt c.stamp.number b.stamp.number) best true) e ∙ f in
        subst (λ t. IsBest v (seen ++ b ∷ []) (cond t (Some b) best)) (sym n) (keeps v seen best b n is)
    by false e s f =
        let n = ap (λ t. t && option_map_or (λ c. nat_lt c.stamp.number b.stamp.number) best true) e in
        subst (λ t. IsBest v (seen ++ b ∷ []) (cond t (Some b) best)) (sym n) (keeps v seen best b n is)

steps : (v : Choices) (seen rest : List Offered) (best : Option Offered) → IsBest v seen best → IsBest v (seen ++ rest) (best_of v best rest)
steps v seen [] best is = subst (λ l. IsBest v l best) (sym (append-nil seen)) is
steps v seen (b ∷ rest) best is =
    subst (λ l. IsBest v l (best_of v (better v best b) rest)) (append_assoc seen (b ∷ []) rest) (steps v (seen ++ b ∷ []) rest (better v best b) (step v seen best b is))

pub choice_is : (v : Choices) → IsChoice v (choice v)
choice_is v = steps v [] v.offers None tt
