-- What a search in the table finds, as an entry of the state that the table is of.
use Rattle.std.proofs.Common.{◌≡◌, ℕ, suc, inl, inr, ◌+◌, ◌<◌, ◌≤◌, true, false, cond, nat_le, List, Option, Some, None, is_some, IsSome, refl, sym, ap, ◌∙◌, subst, true≢false, arith}
use Rattle.std.specs.Prelude.{IfSome, IfNone, ⊤}
use Rattle.std.specs.BTreeMap.Range.{IsLeBy}
use Rattle.std.specs.FinMap as map
use Rattle.std.specs.Ordering.{nat_cmp, ordering_then, is_gt}
use Rattle.std.specs.declared.cmp.Ordering.{Ordering}
use Rattle.std.specs.declared.cmp.Ordering.TheVariants.{Less, Equal, Greater}
use Rattle.std.proofs.lemmas.Bool.{leb-true}
use Rattle.std.proofs.lemmas.Bool.Decides.{leb_tells}
use Rattle.std.proofs.lemmas.Map.Keys.{le_from_not_gt}
use Rattle.std.specs.Cmp.{nat_cmp_is}
use Rattle.dubp_undo.specs.Definition.{IsAt}
use Rattle.dubp_undo.specs.MovingTable.{get, IsLeast, HasNone, IsAfter}
use Rattle.dubp_expiry.specs.DueOrder.{due_cmp, derived_cmp}
use Rattle.dubp_expiry.specs.Entries.{Place, Queued, queued, Has, IsBehind, IsNextDue, NoneIsDue, entry_at, until_now, place_cmp}
use Rattle.dubp_expiry.specs.declared.due.Due.{Due}
use Rattle.dubp_expiry.specs.declared.due.Behind.{Behind}
use Rattle.dubp_expiry.specs.declared.due.Behind.TheVariants.{Time, Entry}
use Rattle.dubp_expiry.proofs.Order.{derived_is}

not_some : {X : Type 0} (o : Option X) → o ≡ None → is_some o ≡ true → ⊥
not_some o none some = true≢false (sym some ∙ ap is_some none)

some : {X : Type 0} (o : Option X) → is_some o ≡ true → IsSome o
some None e = absurd (true≢false (sym e))
some (Some x) e = e

first : (a b : Ordering) → is_gt (ordering_then a b) ≡ false → is_gt a ≡ false
first Less b e = refl
first Equal b e = refl
first Greater b e = e

-- what the tests of numbers tell
late : (a b : ℕ) → nat_le a b ≡ false → b < a
late a b e = elim (leb_tells a b) as (λ _. b < a) [
  | inl p ↦ absurd (true≢false (sym p.0 ∙ e))
  | inr p ↦ p.1
]

not_gt : (a b : ℕ) → a ≤ b → is_gt (nat_cmp a b) ≡ false
not_gt a b h = elim (leb_tells (suc a) b) as (λ _. is_gt (nat_cmp a b) ≡ false) [
  | inl p ↦ sym (ap is_gt (nat_cmp_is a b Less p.1))
  | inr p ↦ sym (ap is_gt (nat_cmp_is a b Equal (let q = p.1 in omega (arith, h, q))))
]

then_less : (r : Ordering) → is_gt r ≡ false → is_gt (ordering_then r Less) ≡ false
then_less Less e = refl
then_less Equal e = refl
then_less Greater e = e

module _ (m : List (Place × Unit {0})) (s : List Queued) (is : IsAt (place_cmp due_cmp) entry_at m s) (P : Place → Type 0) (Q : ℕ × Due → Type 0)
    (to : (time : ℕ) (due : Due) → P (time, Some due) → Q (time, due)) (from : (time : ℕ) (due : Due) → Q (time, due) → P (time, Some due)) where
  -- the place of an entry of the state has it
  placed : (f : ℕ × Due) → Has (queued s) f → IsSome (get (place_cmp due_cmp) m (f.0, Some f.1))
  placed f has = some _ (ap is_some (is (f.0, Some f.1)) ∙ has)

  later : (now time : ℕ) (due : Due) (v : Unit {0}) → nat_le time now ≡ false → IsLeast (place_cmp due_cmp) m P ((time, Some due), v) → NoneIsDue (queued s) Q now
  later now time due v passed least f has passes =
      let before = le_from_not_gt time f.0 (first (nat_cmp time f.0) (due_cmp due f.1) (least.least (f.0, Some f.1) (from f.0 f.1 passes) (placed f has))) in
      let behind = late time now passed in omega (arith, before, behind)

  pub next_is : (now : ℕ) (found : Option (Place × Unit {0})) → IfSome found (IsLeast (place_cmp due_cmp) m P) → IfSome (until_now now found) (IsNextDue (queued s) Q now)
  next_is now None h = tt
  next_is now (Some ((time, None), v)) h = tt
  next_is now (Some ((time, Some due), v)) h =
      elim (nat_le time now) as (λ r. nat_le time now ≡ r → IfSome {T = ℕ × Due} (cond r (Some (time, due)) None) (IsNextDue (queued s) Q now)) [
        | true ↦ λ e. record {
          has = ap is_some (sym (is (time, Some due)) ∙ h.value);
          passes = to time due h.passes;
          due = leb-true time now e;
          least = λ f has passes. h.least (f.0, Some f.1) (from f.0 f.1 passes) (placed f has);
        }
        | false ↦ λ e. tt
      ] refl

  pub none_is : (now : ℕ) (found : Option (Place × Unit {0})) → IfSome found (IsLeast (place_cmp due_cmp) m P) → IfNone found (HasNone (place_cmp due_cmp) m P)
      → IfNone (until_now now found) (NoneIsDue (queued s) Q now)
  none_is now None h none = λ f has passes. absurd (not_some (map.get (queued s) f) (sym (is (f.0, Some f.1)) ∙ none (f.0, Some f.1) (from f.0 f.1 passes)) has)
  none_is now (Some ((time, None), v)) h none = absurd (not_some _ (is (time, None)) (ap is_some h.value))
  none_is now (Some ((time, Some due), v)) h none =
      elim (nat_le time now) as (λ r. nat_le time now ≡ r → IfNone {T = ℕ × Due} (cond r (Some (time, due)) None) (NoneIsDue (queued s) Q now)) [
        | true ↦ λ e. tt
        | false ↦ λ e. later now time due v e h
      ] refl

-- the three searches, in the order that the code derives
abbrev Search : (Due → Due → Ordering) → (List (Place × Unit {0})) → (Place → Type 0) → Option (Place × Unit {0}) → Type 0
Search D m P found = IfSome found (IsLeast (place_cmp D) m P) × IfNone found (HasNone (place_cmp D) m P)

-- what is asked of an answer
pub record Answers (s : List Queued) (Q : ℕ × Due → Type 0) (now : ℕ) (result : Option (ℕ × Due)) : Type 0 where
  pub found : IfSome result (IsNextDue (queued s) Q now)
  pub none : IfNone result (NoneIsDue (queued s) Q now)

module _ (m : List (Place × Unit {0})) (s : List Queued) (now : ℕ) (found : Option (Place × Unit {0})) (result : Option (ℕ × Due)) (until : result ≡ until_now now found) where
  searched : (P : Place → Type 0) (Q : ℕ × Due → Type 0) → ((time : ℕ) (due : Due) → P (time, Some due) → Q (time, due)) → ((time : ℕ) (due : Due) → Q (time, due) → P (time, Some due))
      → IsAt (place_cmp due_cmp) entry_at m s → Search due_cmp m P found → Answers s Q now result
  searched P Q to from is search =
      subst (Answers s Q now) (sym until) (record { found = next_is m s is P Q to from now found search.0; none = none_is m s is P Q to from now found search.0 search.1 })

  pub due_of_all : IsAt (place_cmp derived_cmp) entry_at m s → Search derived_cmp m (IsAfter (place_cmp derived_cmp) None) found → Answers s (λ e. ⊤) now result
  due_of_all is search =
      searched (λ e. ⊤) (λ e. ⊤) (λ time due p. p) (λ time due p. p) (subst (λ D. IsAt (place_cmp D) entry_at m s) derived_is is)
      (subst (λ D. Search D m (λ e. ⊤) found) derived_is search)

  pub due_behind_time : (behind : Behind) (after : ℕ) → behind ≡ Time after → IsAt (place_cmp derived_cmp) entry_at m s → Search derived_cmp m (IsLeBy (place_cmp derived_cmp) (after + 1, None)) found
      → Answers s (IsBehind behind) now result
  due_behind_time behind after place is search =
      rw place (searched (IsLeBy (place_cmp due_cmp) (after + 1, None)) (IsBehind (Time after)) to from (subst (λ D. IsAt (place_cmp D) entry_at m s) derived_is is)
      (subst (λ D. Search D m (IsLeBy (place_cmp D) (after + 1, None)) found) derived_is search))
    where
      to : (time : ℕ) (due : Due) → IsLeBy (place_cmp due_cmp) (after + 1, None) (time, Some due) → after < time
      to time due h = let le = le_from_not_gt (after + 1) time (first (nat_cmp (after + 1) time) Less h) in omega (arith, le)

      from : (time : ℕ) (due : Due) → after < time → IsLeBy (place_cmp due_cmp) (after + 1, None) (time, Some due)
      from time due h = then_less (nat_cmp (after + 1) time) (not_gt (after + 1) time (omega (arith, h)))

  pub due_behind_entry : (behind : Behind) (at : ℕ) (last : Due) → behind ≡ Entry at last → IsAt (place_cmp derived_cmp) entry_at m s → Search derived_cmp m (IsAfter (place_cmp derived_cmp) (Some (at, Some last))) found
      → Answers s (IsBehind behind) now result
  due_behind_entry behind at last place is search =
      rw place (searched (IsAfter (place_cmp due_cmp) (Some (at, Some last))) (IsBehind (Entry at last)) (λ time due p. p) (λ time due p. p) (subst (λ D. IsAt (place_cmp D) entry_at m s) derived_is is)
      (subst (λ D. Search D m (IsAfter (place_cmp D) (Some (at, Some last))) found) derived_is search))
