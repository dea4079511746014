-- Laws of the first rule that fails. `Holds` is any choice of which rules hold.
use Rattle.std.proofs.Common.{◌≡◌, ℕ, ◌<◌, Bool, true, false, ◌&&◌, nat_lt, true≢false, ltb-true, List, [], ◌∷◌, ◌++◌, Option, Some, None, refl, ap, sym, ◌∙◌, subst, inl, inr, arith}
use Rattle.std.specs.List.{AllByRecursion}
use Rattle.dubp_rules.specs.First.{FailsFirst, IsFirst, FirstOf, Implies}
use Rattle.dubp_rules.specs.declared.rule.Rule.{Rule}
use Rattle.dubp_rules.specs.Table.{table_rules, place_of, StandsBefore, rises, IsInOrder}

module _ {R : Type 0} {Holds : R → Type 0} where
  fails_here : {r : R} {rs : List R} → ¬ Holds r → FailsFirst Holds (r ∷ rs) r
  fails_here {rs = rs} fails =
      record { before = []; after = rs; stands = refl; passed = tt; fails = fails }

  fails_later : {r q : R} {rs : List R} → Holds r → FailsFirst Holds rs q → FailsFirst Holds (r ∷ rs) q
  fails_later {r = r} holds f =
      record {
        before = r ∷ f.before;
        after = f.after;
        stands = ap (λ l. r ∷ l) f.stands;
        passed = (holds, f.passed);
        fails = f.fails;
      }

-- what is found down the list is the first
pub IsFirst_from_FirstOf : {R : Type 0} (Holds : R → Type 0) (rs : List R) (answer : Option R) → FirstOf Holds rs answer → IsFirst Holds rs answer
IsFirst_from_FirstOf Holds [] None f = tt
IsFirst_from_FirstOf Holds [] (Some q) f = absurd f
IsFirst_from_FirstOf Holds (r ∷ rs) None f = (f.0, IsFirst_from_FirstOf Holds rs None f.1)
IsFirst_from_FirstOf Holds (r ∷ rs) (Some q) (inl here) =
    subst (λ x. FailsFirst Holds (x ∷ rs) q) here.0 (fails_here (subst (λ x. ¬ Holds x) (sym here.0) here.1))
IsFirst_from_FirstOf Holds (r ∷ rs) (Some q) (inr later) =
    fails_later later.0 (IsFirst_from_FirstOf Holds rs (Some q) later.1)

found_behind : {R : Type 0} (Holds : R → Type 0) (before : List R) (r : R) (after : List R) → AllByRecursion Holds before → ¬ Holds r → FirstOf Holds (before ++ r ∷ after) (Some r)
found_behind Holds [] r after passed fails = inl (refl, fails)
found_behind Holds (x ∷ before) r after passed fails =
    inr (passed.0, found_behind Holds before r after passed.1 fails)

none_where_all : {R : Type 0} (Holds : R → Type 0) (rs : List R) → AllByRecursion Holds rs → FirstOf Holds rs None
none_where_all Holds [] all = tt
none_where_all Holds (r ∷ rs) all = (all.0, none_where_all Holds rs all.1)

-- the first is what is found down the list
pub FirstOf_from_IsFirst : {R : Type 0} (Holds : R → Type 0) (rs : List R) (answer : Option R) → IsFirst Holds rs answer → FirstOf Holds rs answer
FirstOf_from_IsFirst Holds rs None all = none_where_all Holds rs all
FirstOf_from_IsFirst Holds rs (Some r) f =
    subst (λ l. FirstOf Holds l (Some r)) (sym f.stands) (found_behind Holds f.before r f.after f.passed f.fails)

-- there is one answer
pub FirstOf_determined : {R : Type 0} (Holds : R → Type 0) (rs : List R) (answer other : Option R) → FirstOf Holds rs answer → FirstOf Holds rs other → answer ≡ other
FirstOf_determined Holds [] None None f g = refl
FirstOf_determined Holds [] (Some q) other f g = absurd f
FirstOf_determined Holds [] None (Some q) f g = absurd g
FirstOf_determined Holds (r ∷ rs) None None f g = refl
FirstOf_determined Holds (r ∷ rs) None (Some q) f (inl here) = absurd (here.1 f.0)
FirstOf_determined Holds (r ∷ rs) None (Some q) f (inr later) = FirstOf_determined Holds rs None (Some q) f.1 later.1
FirstOf_determined Holds (r ∷ rs) (Some q) None (inl here) g = absurd (here.1 g.0)
FirstOf_determined Holds (r ∷ rs) (Some q) None (inr later) g = FirstOf_determined Holds rs (Some q) None later.1 g.1
FirstOf_determined Holds (r ∷ rs) (Some q) (Some p) (inl here) (inl there) = ap Some (here.0 ∙ sym there.0)
FirstOf_determined Holds (r ∷ rs) (Some q) (Some p) (inl here) (inr later) = absurd (here.1 later.0)
FirstOf_determined Holds (r ∷ rs) (Some q) (Some p) (inr later) (inl here) = absurd (here.1 later.0)
FirstOf_determined Holds (r ∷ rs) (Some q) (Some p) (inr later) (inr other) =
    FirstOf_determined Holds rs (Some q) (Some p) later.1 other.1

-- the answer is a rule that fails
pub FirstOf_fails : {R : Type 0} (Holds : R → Type 0) (rs : List R) (r : R) → FirstOf Holds rs (Some r) → ¬ Holds r
FirstOf_fails Holds rs r f = (IsFirst_from_FirstOf Holds rs (Some r) f).fails

-- of two lists one after the other: a rule found in the first list is the answer
pub FirstOf_append_found : {R : Type 0} (Holds : R → Type 0) (xs ys : List R) (r : R) → FirstOf Holds xs (Some r) → FirstOf Holds (xs ++ ys) (Some r)
FirstOf_append_found Holds [] ys r f = absurd f
FirstOf_append_found Holds (x ∷ xs) ys r (inl here) = inl here
FirstOf_append_found Holds (x ∷ xs) ys r (inr later) =
    inr (later.0, FirstOf_append_found Holds xs ys r later.1)

-- .. and where each rule of the first list holds, the answer is that of the second
pub FirstOf_append_none : {R : Type 0} (Holds : R → Type 0) (xs ys : List R) (answer : Option R) → FirstOf Holds xs None → FirstOf Holds ys answer → FirstOf Holds (xs ++ ys) answer
FirstOf_append_none Holds [] ys answer f g = g
FirstOf_append_none Holds (x ∷ xs) ys None f g = (f.0, FirstOf_append_none Holds xs ys None f.1 g)
FirstOf_append_none Holds (x ∷ xs) ys (Some q) f g =
    inr (f.0, FirstOf_append_none Holds xs ys (Some q) f.1 g)

-- where no rule of both lists fails, none of either does
pub FirstOf_none_parts : {R : Type 0} (Holds : R → Type 0) (xs ys : List R) → FirstOf Holds (xs ++ ys) None → FirstOf Holds xs None × FirstOf Holds ys None
FirstOf_none_parts Holds [] ys f = (tt, f)
FirstOf_none_parts Holds (x ∷ xs) ys f =
    let parts = FirstOf_none_parts Holds xs ys f.1 in
    ((f.0, parts.0), parts.1)

-- where no rule fails, none fails when more rules hold
pub FirstOf_larger_none : {R : Type 0} (Holds More : R → Type 0) → Implies Holds More → (rs : List R) → FirstOf Holds rs None → FirstOf More rs None
FirstOf_larger_none Holds More larger [] f = tt
FirstOf_larger_none Holds More larger (r ∷ rs) f =
    (larger r f.0, FirstOf_larger_none Holds More larger rs f.1)

-- where the same rules hold, the answer is the same
pub FirstOf_same : {R : Type 0} (Holds More : R → Type 0) → Implies Holds More → Implies More Holds → (rs : List R) (answer : Option R) → FirstOf Holds rs answer → FirstOf More rs answer
FirstOf_same Holds More larger smaller rs None f = FirstOf_larger_none Holds More larger rs f
FirstOf_same Holds More larger smaller [] (Some q) f = absurd f
FirstOf_same Holds More larger smaller (r ∷ rs) (Some q) (inl here) =
    inl (here.0, λ more. here.1 (smaller r more))
FirstOf_same Holds More larger smaller (r ∷ rs) (Some q) (inr later) =
    inr (larger r later.0, FirstOf_same Holds More larger smaller rs (Some q) later.1)

first_and : (p q : Bool) → (p && q) ≡ true → p ≡ true
first_and true q e = refl
first_and false q e = e

second_and : (p q : Bool) → (p && q) ≡ true → q ≡ true
second_and true q e = e
second_and false q e = absurd (true≢false (sym e))

rises_behind : {R : Type 0} (place : R → ℕ) (r : R) (rs : List R) → rises place (r ∷ rs) ≡ true → rises place rs ≡ true
rises_behind place r [] rise = refl
rises_behind place r (q ∷ rs) rise = second_and (nat_lt (place r) (place q)) _ rise

-- a rule that is found in the list behind r is of a greater place
behind : {R : Type 0} (place : R → ℕ) (Holds : R → Type 0) (r q : R) (rs : List R) → rises place (r ∷ rs) ≡ true → FirstOf Holds rs (Some q) → place r < place q
behind place Holds r q [] rise f = absurd f
behind place Holds r q (x ∷ rs) rise f =
    let next : place r < place x = ltb-true _ _ (first_and _ _ rise) in
    elim f [
      | inl here ↦ subst (λ y. place r < place y) (sym here.0) next
      | inr later ↦ omega (arith, behind place Holds x q rs (rises_behind place r (x ∷ rs) rise) later.1)
    ]

not_earlier : {R : Type 0} (place : R → ℕ) (Holds More : R → Type 0) → Implies Holds More → (rs : List R) (r q : R) → rises place rs ≡ true → FirstOf Holds rs (Some r) → FirstOf More rs (Some q) → ¬ (place q < place r)
not_earlier place Holds More larger [] r q rise f g lt = absurd f
not_earlier place Holds More larger (x ∷ rs) r q rise (inl here) (inl there) lt =
    let same : place q ≡ place r = ap place (there.0 ∙ sym here.0) in omega arith
not_earlier place Holds More larger (x ∷ rs) r q rise (inl here) (inr later) lt =
    let same : place r ≡ place x = ap place here.0 in
    omega (arith, behind place More x q rs rise later.1)
not_earlier place Holds More larger (x ∷ rs) r q rise (inr later) (inl there) lt =
    there.1 (larger x later.0)
not_earlier place Holds More larger (x ∷ rs) r q rise (inr later) (inr also) lt =
    not_earlier place Holds More larger rs r q (rises_behind place x rs rise) later.1 also.1 lt

-- when more rules hold, the first that fails is none that stands before the first that failed
pub FirstOf_larger : (Holds More : Rule → Type 0) → Implies Holds More → (rs : List Rule) → IsInOrder rs → (r q : Rule) → FirstOf Holds rs (Some r) → FirstOf More rs (Some q) → ¬ StandsBefore q r
FirstOf_larger Holds More larger rs order r q f g =
    not_earlier place_of Holds More larger rs r q order f g

-- the table is in its own order
pub table_in_order : IsInOrder table_rules
table_in_order = refl
