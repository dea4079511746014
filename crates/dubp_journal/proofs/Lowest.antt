-- The entry whose value has the least measure, from the slot that has it.
use Rattle.std.proofs.Common.{◌≡◌, ℕ, ◌<◌, ◌≤◌, List, length, get_or, Option, Some, None, refl, sym, subst, ◌∙◌, inl, inr}
use Rattle.std.specs.declared.cmp.Ordering.{Ordering}
use Rattle.std.proofs.lemmas.Bool.{cases_lt}
use Rattle.std.proofs.lemmas.List.{get_or_past}
use Rattle.dubp_journal.specs.Least.{IsLeast}
use Rattle.dubp_journal.specs.MovingTable.{get, IsLowest}
use Rattle.dubp_journal.specs.Slots.{live, Finds}
use Rattle.dubp_journal.proofs.Live.{held, get-live}

-- a slot that holds something is one of them
pub some_within : {V : Type 0} (slots : List (Option V)) (i : ℕ) (v : V) → get_or slots i None ≡ Some v → i < length slots
some_within slots i v at = elim (cases_lt i (length slots)) [
  | inl lt ↦ lt
  | inr ge ↦ (let past = get_or_past slots i None ge in absurd (cc))
]

held_none : {V : Type 0} (slots : List (Option V)) → ((j : ℕ) → get_or slots j None ≡ None) → (s : Option ℕ) → held slots s ≡ None
held_none slots none None = refl
held_none slots none (Some i) = none i

module _ {K V : Type 0} {cmp : K → K → Ordering} {slot_of : K → Option ℕ} {keys : List (Option K)} (f : Finds cmp slot_of keys) (slots : List (Option V)) where
  pub none_lowest : ((j : ℕ) → get_or slots j None ≡ None) → (q : K) → get cmp (live keys slots) q ≡ None
  none_lowest none q = get-live f q slots ∙ held_none slots none (slot_of q)

  pub lowest_is : (measure : V → ℕ) (i : ℕ) (k : K) (v : V) → get_or keys i None ≡ Some k → get_or slots i None ≡ Some v → IsLeast measure slots i → IsLowest cmp measure (live keys slots) (k, v)
  lowest_is measure i k v key has l = record {
    value = get-live f k slots ∙ subst (λ s. held slots s ≡ Some v) (sym (f.found i k key)) has;
    lowest = λ q w at. by_slot w (slot_of q) (sym (get-live f q slots) ∙ at);
  }
    where
      by_slot : (w : V) (s : Option ℕ) → held slots s ≡ Some w → measure v ≤ measure w
      by_slot w None at = absurd (cc)
      by_slot w (Some j) at = (let is : l.value ≡ v = (let a = l.has in cc) in subst (λ x. measure x ≤ measure w) is (l.least j w at))
