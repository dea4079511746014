-- Slots that the keys cannot tell apart: they show the same maps, now and before any changes.
use Rattle.std.proofs.Common.{◌≡◌, ℕ, ◌<◌, ◌≤◌, List, [], ◌∷◌, length, get_or, set, drop, Option, Some, None, refl, sym, ap, ◌∙◌, inl, inr, ◌⊎◌, arith}
use Rattle.std.specs.declared.cmp.Ordering.{Ordering}
use Rattle.std.specs.List.{All}
use Rattle.std.proofs.lemmas.List.{get_or-set_same, get_or-set_other}
use Rattle.std.proofs.lemmas.List.Elements.{All-head, All-tail, All-drop}
use Rattle.std.proofs.lemmas.Bool.{cases_eq}
use Rattle.dubp_journal.specs.MovingTable.{SameValues}
use Rattle.dubp_journal.specs.Slots.{live, Finds}
use Rattle.dubp_journal.specs.Journal.{undo, states}
use Rattle.dubp_journal.proofs.Journals.{length-undo}
use Rattle.dubp_journal.proofs.Live.{get-live, live_slots}

-- the same stands in each slot that has a key
abbrev pub AreAlike : {K V : Type 0} → List (Option K) → List (Option V) → List (Option V) → Type 0
AreAlike keys slots t = (i : ℕ) → (get_or keys i None ≡ None) ⊎ (get_or slots i None ≡ get_or t i None)

module _ {K V : Type 0} (keys : List (Option K)) (slots t : List (Option V)) where
  pub alike_live : AreAlike keys slots t → live keys slots ≡ live keys t
  alike_live a = live_slots keys slots t a

  alike_set : (i : ℕ) (v : Option V) → i < length slots → i < length t → AreAlike keys slots t → AreAlike keys (set slots i v) (set t i v)
  alike_set i v p q a = λ x. elim (cases_eq x i) [
    | inl same ↦ inr (rw same (get_or-set_same slots i v None p ∙ sym (get_or-set_same t i v None q)))
    | inr other ↦ elim (a x) [
      | inl none ↦ inl none
      | inr is ↦ inr (get_or-set_other slots i x v None other ∙ is ∙ sym (get_or-set_other t i x v None other))
    ]
  ]

module _ {K V : Type 0} where
  pub alike_undo : (keys : List (Option K)) (slots t : List (Option V)) (j : List (ℕ × Option V)) → All (λ c. c.0 < length t) j → length t ≤ length slots → AreAlike keys slots t → AreAlike keys (undo slots j) (undo t j)
  alike_undo keys slots t [] all le a = a
  alike_undo keys slots t (c ∷ j) all le a =
      let here = All-head (λ c. c.0 < length t) c j all in
      alike_set keys (undo slots j) (undo t j) c.0 c.1 (omega (arith, length-undo slots j, here)) (omega (arith, length-undo t j, here)) (alike_undo keys slots t j (All-tail (λ c. c.0 < length t) c j all) le a)

  pub alike_states : (keys : List (Option K)) (slots t : List (Option V)) (j : List (ℕ × Option V)) (marks : List ℕ) → All (λ c. c.0 < length t) j → length t ≤ length slots → AreAlike keys slots t → states keys slots j marks ≡ states keys t j marks
  alike_states keys slots t j [] all le a = refl
  alike_states keys slots t j (n ∷ marks) all le a =
      rw (alike_live keys (undo slots j) (undo t j) (alike_undo keys slots t j all le a)) (ap (λ x. (live keys (undo t j), n) ∷ x) (alike_states keys slots t (drop n j) marks (All-drop (λ c. c.0 < length t) n j all) le a))

pub alike_from_values : {K V : Type 0} {cmp : K → K → Ordering} {slot_of : K → Option ℕ} {keys : List (Option K)} → Finds cmp slot_of keys → (s t : List (Option V)) → SameValues cmp (live keys s) (live keys t) → AreAlike keys s t
alike_from_values {K} {V} {cmp = cmp} {keys = keys} f s t same i = by_key (get_or keys i None) refl
  where
    by_key : (o : Option K) → get_or keys i None ≡ o → (get_or keys i None ≡ None) ⊎ (get_or s i None ≡ get_or t i None)
    by_key None e = inl e
    by_key (Some k) e =
        let at = f.found i k e in
        let a = get-live f k s in
        let b = get-live f k t in
        inr (rw at at (sym a) ∙ same k ∙ rw at at b)
