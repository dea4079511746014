-- Each key that a map of the table has is placed.
use Rattle.std.proofs.Common.{◌≡◌, ℕ, List, [], ◌∷◌, drop, reverse, Option, Some, None, IsSome, refl, sym, subst, ◌∙◌, arith}
use Rattle.std.specs.declared.cmp.Ordering.{Ordering}
use Rattle.std.specs.List.{All}
use Rattle.std.proofs.lemmas.List.{length-reverse, reverse-append}
use Rattle.std.proofs.lemmas.List.Elements.{All-nil, All-cons, All-head, All-tail, All-push}
use Rattle.dubp_journal.specs.MovingTable.{IsCovered, IsAllPlaced}
use Rattle.dubp_journal.specs.Slots.{live, keys_in, Finds}
use Rattle.dubp_journal.specs.Journal.{undo, states, IsKept}
use Rattle.dubp_journal.proofs.Journals.{length-states}
use Rattle.dubp_journal.proofs.Live.{held, get-live, is_some-slot}

held_some : {V : Type 0} (slots : List (Option V)) (x : Option ℕ) → IsSome (held slots x) → IsSome x
held_some slots None some = cc
held_some slots (Some i) some = refl

module _ {K V : Type 0} {cmp : K → K → Ordering} {slot_of : K → Option ℕ} {keys : List (Option K)} (f : Finds cmp slot_of keys) where
  pub live_covered : (slots : List (Option V)) → IsCovered cmp (keys_in keys) (live keys slots)
  live_covered slots q some =
      sym (is_some-slot f q) ∙ held_some slots (slot_of q) (subst (λ x. IsSome x) (get-live f q slots) some)

  pub states_covered : (slots : List (Option V)) (j : List (ℕ × Option V)) (marks : List ℕ) → All (λ x. IsCovered cmp (keys_in keys) x.0) (states keys slots j marks)
  states_covered slots j [] = All-nil (λ x. IsCovered cmp (keys_in keys) x.0)
  states_covered slots j (n ∷ marks) = All-cons (λ x. IsCovered cmp (keys_in keys) x.0) (live keys (undo slots j), n) (states keys slots (drop n j) marks) (live_covered (undo slots j)) (states_covered slots (drop n j) marks)

All_reverse : {X : Type 0} (P : X → Type 0) (xs : List X) → All P xs → All P (reverse xs)
All_reverse P [] all = all
All_reverse P (x ∷ xs) all =
    subst (λ l. All P l) (sym (reverse-append (x ∷ []) xs)) (All-push P (reverse xs) x (All_reverse P xs (All-tail P x xs all)) (All-head P x xs all))

pub all_placed : {K V : Type 0} {cmp : K → K → Ordering} {slot_of : K → Option ℕ} {keys : List (Option K)} {uses : List ℕ} {slots root : List (Option V)} {rooted : List (K × V)} {j redo : List (ℕ × Option V)} {marks redo_marks : List ℕ} {spare jr mr rr rmr : ℕ} → (room first : ℕ) → IsKept cmp slot_of keys uses slots root rooted j redo marks redo_marks spare jr mr rr rmr → IsAllPlaced cmp (record {
  past = states keys slots j marks;
  first = first;
  now = live keys slots;
  ahead = reverse (states keys root redo redo_marks);
  root = rooted;
  spare = spare;
  room = room;
  placed = keys_in keys;
})
all_placed {cmp = cmp} {keys = keys} {slots = slots} {root = root} {rooted = rooted} {j = j} {redo = redo} {marks = marks} {redo_marks = redo_marks} room first k = record {
  now = live_covered k.finds slots;
  past = states_covered k.finds slots j marks;
  ahead = All_reverse (λ x. IsCovered cmp (keys_in keys) x.0) (states keys root redo redo_marks) (states_covered k.finds root redo redo_marks);
  root = λ some.
      let is : rooted ≡ live keys root = k.rooted_is (omega (arith, some, length-reverse (states keys root redo redo_marks), length-states keys root redo redo_marks)) in
      subst (λ m. IsCovered cmp (keys_in keys) m) (sym is) (live_covered k.finds root);
}
