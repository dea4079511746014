-- What is said of a block's head is what the rules say.
use Rattle.std.proofs.Common.{List, [], ◌∷◌, Option, Some, None, inl, inr, ◌↔◌, refl}
use Rattle.std.specs.List.{AllByRecursion}
use Rattle.dubp_rules.specs.First.{IsFirst, FirstOf}
use Rattle.dubp_rules.proofs.FirstLaws.{IsFirst_from_FirstOf, FirstOf_from_IsFirst}
use Rattle.dubp_validity.specs.Rules.{Holds}
use Rattle.dubp_head.specs.Laws.{HeadsFollow, LimitsAreRules, HeaderIsRules}

-- where the rules of a list say the same, the first that fails is the same
pub first_same : {R : Type 0} (Holds More : R → Type 0) (rs : List R) (answer : Option R) → AllByRecursion (λ r. Holds r ↔ More r) rs → FirstOf Holds rs answer → FirstOf More rs answer
first_same Holds More [] None same f = f
first_same Holds More [] (Some q) same f = f
first_same Holds More (r ∷ rs) None same f = (same.0.0 f.0, first_same Holds More rs None same.1 f.1)
first_same Holds More (r ∷ rs) (Some q) same (inl here) = inl (here.0, λ more. here.1 (same.0.1 more))
first_same Holds More (r ∷ rs) (Some q) same (inr later) =
    inr (same.0.0 later.0, first_same Holds More rs (Some q) same.1 later.1)

turned : {R : Type 0} (Holds More : R → Type 0) (rs : List R) → AllByRecursion (λ r. Holds r ↔ More r) rs → AllByRecursion (λ r. More r ↔ Holds r) rs
turned Holds More [] same = tt
turned Holds More (r ∷ rs) same = ((same.0.1, same.0.0), turned Holds More rs same.1)

pub is_first_same : {R : Type 0} (Holds More : R → Type 0) (rs : List R) (answer : Option R) → AllByRecursion (λ r. Holds r ↔ More r) rs → IsFirst Holds rs answer ↔ IsFirst More rs answer
is_first_same Holds More rs answer same = (
  λ f. IsFirst_from_FirstOf More rs answer (first_same Holds More rs answer same (FirstOf_from_IsFirst Holds rs answer f)),
  λ f. IsFirst_from_FirstOf Holds rs answer (first_same More Holds rs answer (turned Holds More rs same) (FirstOf_from_IsFirst More rs answer f)),
)

abbrev same_fact : {P : Type 0} → P ↔ P
same_fact = (λ p. p, λ p. p)

pub heads_follow : HeadsFollow
heads_follow c b heads may limits =
    (record { block = b; count = _; may = may; limits = limits; is = refl }, heads)

pub limits_are_rules : LimitsAreRules
limits_are_rules v c b = (same_fact, (same_fact, (same_fact, tt)))

pub header_is_rules : HeaderIsRules
header_is_rules v [] b =
    (same_fact, (same_fact, (same_fact, (same_fact, (same_fact, (same_fact, (same_fact, (same_fact, (same_fact, (same_fact, tt))))))))))
header_is_rules v (a ∷ c) b =
    (same_fact, (same_fact, (same_fact, (same_fact, (same_fact, (same_fact, (same_fact, (same_fact, (same_fact, (same_fact, tt))))))))))
