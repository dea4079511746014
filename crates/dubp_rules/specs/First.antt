-- The first rule of a list that fails, given which rules hold.
--
-- `IsFirst` is the sentence. `FirstOf` says the same by going down the list, as a function that checks
-- one rule after another does. The laws of both are in `FirstLaws`.
use Rattle.std.specs.Prelude.{◌≡◌, ◌⊎◌, ⊤, List, [], ◌∷◌, ◌++◌, Option, Some, None, MatchOption}
use Rattle.std.specs.List.{AllByRecursion}

-- r is a rule of the list that fails, and each rule before it holds
pub record FailsFirst {R : Type 0} (Holds : R → Type 0) (rules : List R) (r : R) : Type 0 where
  pub before : List R
  pub after : List R
  pub stands : rules ≡ before ++ r ∷ after
  pub passed : AllByRecursion Holds before
  pub fails : ¬ Holds r

-- the answer is the first rule of the list that fails, or none where each rule holds
abbrev pub IsFirst : {R : Type 0} → (R → Type 0) → List R → Option R → Type 0
IsFirst Holds rules answer =
    MatchOption answer (AllByRecursion Holds rules) (λ r. FailsFirst Holds rules r)

-- the same, down the list: the first rule fails and is the answer, or it holds and the answer is that of the rest
abbrev pub FirstOf : {R : Type 0} → (R → Type 0) → List R → Option R → Type 0
FirstOf Holds [] None = ⊤
FirstOf Holds [] (Some q) = ⊥
FirstOf Holds (r ∷ rs) None = Holds r × FirstOf Holds rs None
FirstOf Holds (r ∷ rs) (Some q) = ((q ≡ r) × (¬ Holds r)) ⊎ (Holds r × FirstOf Holds rs (Some q))

-- each rule that holds by the first choice holds by the second
abbrev pub Implies : {R : Type 0} → (R → Type 0) → (R → Type 0) → Type 0
Implies {R} Holds More = (r : R) → Holds r → More r
