-- What moving the last changes to the other journal does to the maps: back, forth, and without the oldest.
use Rattle.std.proofs.Common.{◌≡◌, ℕ, suc, ◌+◌, ◌-◌, ◌<◌, ◌≤◌, List, [], ◌∷◌, ◌++◌, length, get_or, set, take, drop, reverse, Option, None, refl, sym, ap, subst, ◌∙◌, inl, inr, ◌⊎◌, arith, length-append, append-nil}
use Rattle.std.specs.declared.cmp.Ordering.{Ordering}
use Rattle.std.specs.Cmp.{IsTotalOrder}
use Rattle.std.specs.List.{All, sum}
use Rattle.std.proofs.lemmas.List.{length-reverse, reverse-append, get_or-take, take-take, length-drop, length-take, length_push}
use Rattle.std.proofs.lemmas.List.Elements.{All-head, All-tail, All-push, All-drop}
use Rattle.std.proofs.Math.Seq.{drop-cons}
use Rattle.dubp_journal.specs.MovingTable.{last_count, SameValues}
use Rattle.dubp_journal.specs.Slots.{live}
use Rattle.dubp_journal.specs.Journal.{undo, redo_of, states, Follows, IsKept}
use Rattle.dubp_journal.proofs.Alike.{alike_live, alike_undo, alike_states, alike_from_values}
use Rattle.dubp_journal.proofs.Journals.{length-undo, undo-append, undo-set, sum_push, sum_cons, states-append, length-states, no_spare, last_changes-push, last_count-states, parted, last_few, last_state, push_journal}
use Rattle.dubp_journal.proofs.Placed.{places_back, places_hold, places_again, places_drop}

-- making again what was undone
pub length-redo_of : {V : Type 0} (slots : List (Option V)) (j : List (ℕ × Option V)) → length (redo_of slots j) ≡ length j
length-redo_of slots [] = refl
length-redo_of slots (c ∷ j) = length_push (redo_of slots j) _ ∙ omega (arith, length-redo_of slots j)

pub All-redo_of : {V : Type 0} (n : ℕ) (slots : List (Option V)) (j : List (ℕ × Option V)) → All (λ c. c.0 < n) j → All (λ c. c.0 < n) (redo_of slots j)
All-redo_of n slots [] a = λ k d lt. absurd (omega arith)
All-redo_of n slots (c ∷ j) a = All-push (λ c. c.0 < n) (redo_of slots j) _ (All-redo_of n slots j (All-tail (λ c. c.0 < n) c j a)) (All-head (λ c. c.0 < n) c j a)

pub undo-redo_of : {V : Type 0} (slots : List (Option V)) (j : List (ℕ × Option V)) → undo (undo slots j) (redo_of slots j) ≡ slots
undo-redo_of slots [] = refl
undo-redo_of slots (c ∷ j) =
    undo-append (set (undo slots j) c.0 c.1) (redo_of slots j) ((c.0, get_or (undo slots j) c.0 None) ∷ [])
    ∙ ap (λ x. undo x (redo_of slots j)) (undo-set (undo slots j) c.0 c.1)
    ∙ undo-redo_of slots j

-- the last n changes go to the end of `to`: the two have as many as before
pub length-moved : {V : Type 0} (slots : List (Option V)) (from to : List (ℕ × Option V)) (n : ℕ) → n ≤ length from → length (take (length from - n) from) + length (to ++ redo_of slots (drop (length from - n) from)) ≡ length from + length to
length-moved slots from to n few =
    let seg = drop (length from - n) from in
    let p = parted from n few in
    omega (arith, p.front, p.back, length-append to (redo_of slots seg), length-redo_of slots seg)

-- one more change from the end of j
pub redo_more : {V : Type 0} (slots : List (Option V)) (j : List (ℕ × Option V)) (i : ℕ) (c : ℕ × Option V) → i < length j → get_or j (length j - (i + 1)) c ≡ c → redo_of slots (drop (length j - (i + 1)) j) ≡ redo_of slots (drop (length j - i) j) ++ (c.0, get_or (undo slots (drop (length j - i) j)) c.0 None) ∷ []
redo_more slots j i c lt is =
    let next : suc (length j - (i + 1)) ≡ length j - i = omega arith in
    let rest = ap (λ n. drop n j) next in
    let split = drop-cons j (length j - (i + 1)) c (omega arith) in
    let whole : drop (length j - (i + 1)) j ≡ c ∷ drop (length j - i) j = cc in
    ap (redo_of slots) whole

-- the changes of seg, undone and noted after those of `to`
pub turned : {K V : Type 0} (keys : List (Option K)) (slots : List (Option V)) (seg to : List (ℕ × Option V)) (marks : List ℕ) (n : ℕ) → sum marks ≡ length to → states keys (undo slots seg) (to ++ redo_of slots seg) (marks ++ n ∷ []) ≡ states keys slots to marks ++ (live keys slots, n) ∷ []
turned keys slots seg to marks n e = states-append keys (undo slots seg) to (redo_of slots seg) marks n e ∙ ap (λ x. states keys x to marks ++ (live keys x, n) ∷ []) (undo-redo_of slots seg)

module _ {K V : Type 0} {cmp : K → K → Ordering} {slot_of : K → Option ℕ} {keys : List (Option K)} {uses : List ℕ} {slots root : List (Option V)} {rooted : List (K × V)} {j redo : List (ℕ × Option V)} where
  pub back_kept : (marks redo_marks : List ℕ) (n spare : ℕ) {uses' : List ℕ} (f : Follows uses uses' j (take (length j - n) j)) {jr mr rr rmr : ℕ} (k : IsKept cmp slot_of keys uses slots root rooted j redo (marks ++ n ∷ []) redo_marks spare jr mr rr rmr) → IsKept cmp slot_of keys uses' (undo slots (drop (length j - n) j)) root rooted (take (length j - n) j) redo marks redo_marks 0 jr mr rr rmr
  back_kept marks redo_marks n spare f k =
      let l = last_few (length slots) j marks n k.back_ok in
      let same = length-undo slots (drop (length j - n) j) in
      let front = (parted j n l.few).front in
      record {
        finds = k.finds;
        places = places_back k.places (length j - n) f;
        back_ok = rw same l.rest;
        forward_ok = k.forward_ok;
        root_fits = rw same k.root_fits;
        rooted_is = k.rooted_is;
        room = no_spare _ _ _ _ _ _ _ _ (omega (arith, k.room.back, front)) (omega (arith, k.room.back_marks, length_push marks n)) (omega (arith, k.room.forward)) (omega (arith, k.room.forward_marks));
      }

  pub hold_kept : (marks redo_marks : List ℕ) (n spare : ℕ) {jr mr rr rmr : ℕ} (k : IsKept cmp slot_of keys uses slots root rooted j redo (marks ++ n ∷ []) redo_marks (spare + 1) jr mr rr rmr) →
      IsKept cmp slot_of keys uses (undo slots (drop (length j - n) j)) (undo slots (drop (length j - n) j)) (live keys (undo slots (drop (length j - n) j))) (take (length j - n) j) (redo ++ redo_of slots (drop (length j - n) j)) marks (redo_marks ++ n ∷ []) spare jr mr rr rmr
  hold_kept marks redo_marks n spare k =
      let l = last_few (length slots) j marks n k.back_ok in
      let p = parted j n l.few in
      let seg = drop (length j - n) j in
      let same = length-undo slots seg in
      let moved : length (redo_of slots seg) ≡ n = length-redo_of slots seg ∙ p.back in
      let fewer : spare ≤ length marks = omega (arith, k.room.few, length_push marks n) in
      let total = last_changes-push marks n spare fewer in
      let redo_within : All (λ c. c.0 < length slots) redo = λ i d lt. omega (arith, k.forward_ok.within i d lt, k.root_fits) in
      record {
        finds = k.finds;
        places = places_hold k.places (length j - n);
        back_ok = rw same l.rest;
        forward_ok = rw same (push_journal (length slots) redo (redo_of slots seg) redo_marks n (record { within = redo_within; divided = k.forward_ok.divided }) (All-redo_of (length slots) slots seg l.last) moved);
        root_fits = omega arith;
        rooted_is = λ some. refl;
        room = record {
          back = omega (arith, k.room.back, p.front, moved, length-append redo (redo_of slots seg), l.few);
          back_marks = omega (arith, k.room.back_marks, length_push marks n, length_push redo_marks n);
          few = fewer;
          forward = omega (arith, k.room.forward, total, moved, length-append redo (redo_of slots seg));
          forward_marks = omega (arith, k.room.forward_marks, length_push redo_marks n);
        };
      }

  pub again_kept : (marks redo_marks : List ℕ) (n spare : ℕ) {jr mr rr rmr : ℕ} (k : IsKept cmp slot_of keys uses slots root rooted j redo marks (redo_marks ++ n ∷ []) spare jr mr rr rmr) →
      IsKept cmp slot_of keys uses (undo slots (drop (length redo - n) redo)) (undo slots (drop (length redo - n) redo)) (live keys (undo slots (drop (length redo - n) redo))) (j ++ redo_of slots (drop (length redo - n) redo)) (take (length redo - n) redo) (marks ++ n ∷ []) redo_marks 0 jr mr rr rmr
  again_kept marks redo_marks n spare k =
      let l = last_few (length root) redo redo_marks n k.forward_ok in
      let p = parted redo n l.few in
      let seg = drop (length redo - n) redo in
      let same = length-undo slots seg in
      let moved : length (redo_of slots seg) ≡ n = length-redo_of slots seg ∙ p.back in
      let seg_within : All (λ c. c.0 < length slots) seg = λ i d lt. omega (arith, l.last i d lt, k.root_fits) in
      let rest_within : All (λ c. c.0 < length slots) (take (length redo - n) redo) = λ i d lt. omega (arith, l.rest.within i d lt, k.root_fits) in
      record {
        finds = k.finds;
        places = places_again k.places (length redo - n);
        back_ok = rw same (push_journal (length slots) j (redo_of slots seg) marks n k.back_ok (All-redo_of (length slots) slots seg seg_within) moved);
        forward_ok = rw same (record { within = rest_within; divided = l.rest.divided });
        root_fits = omega arith;
        rooted_is = λ some. refl;
        room = no_spare _ _ _ _ _ _ _ _ (omega (arith, k.room.back, p.front, moved, length-append j (redo_of slots seg), l.few)) (omega (arith, k.room.back_marks, length_push marks n, length_push redo_marks n)) (omega (arith, k.room.forward, p.front)) (omega (arith, k.room.forward_marks, length_push redo_marks n));
      }

  -- the maps ahead, from slots at which they begin
  same_ahead : {marks redo_marks : List ℕ} {spare jr mr rr rmr : ℕ} → IsTotalOrder cmp → IsKept cmp slot_of keys uses slots root rooted j redo marks redo_marks spare jr mr rr rmr → (reverse (states keys root redo redo_marks) ≡ []) ⊎ SameValues cmp (live keys slots) rooted → states keys slots redo redo_marks ≡ states keys root redo redo_marks
  same_ahead {redo_marks = []} o k begins = refl
  same_ahead {redo_marks = m ∷ ms} o k (inl none) =
      let n = length-reverse (states keys root redo (m ∷ ms)) in
      absurd (omega (arith, n, ap length none, length-states keys root redo (m ∷ ms)))
  same_ahead {redo_marks = m ∷ ms} o k (inr same) =
      alike_states keys slots root redo (m ∷ ms) k.forward_ok.within k.root_fits (alike_from_values k.finds slots root (subst (λ m. SameValues cmp (live keys slots) m) (k.rooted_is (omega arith)) same))

  -- what `back` does, where all marks are `marks` and then n
  pub back_parts : (all marks redo_marks : List ℕ) (n spare : ℕ) {uses' : List ℕ} → Follows uses uses' j (take (length j - n) j) → {jr mr rr rmr : ℕ} → all ≡ marks ++ n ∷ [] → IsKept cmp slot_of keys uses slots root rooted j redo all redo_marks spare jr mr rr rmr → record {
    kept : IsKept cmp slot_of keys uses' (undo slots (drop (length j - n) j)) root rooted (take (length j - n) j) redo marks redo_marks 0 jr mr rr rmr;
    past : states keys slots j all ≡ states keys (undo slots (drop (length j - n) j)) (take (length j - n) j) marks ++ (live keys (undo slots (drop (length j - n) j)), n) ∷ [];
  }
  back_parts all marks redo_marks n spare f split k =
      let k = rw split at k in
      record { kept = back_kept marks redo_marks n spare f k; past = rw split (last_state keys slots (length slots) j marks n k.back_ok) }

  -- what `unmark` does
  pub unmark_parts : (all marks redo_marks : List ℕ) (n spare : ℕ) {jr mr rr rmr : ℕ} → all ≡ marks ++ n ∷ [] → last_count (states keys slots j all) ≡ 0 → IsKept cmp slot_of keys uses slots root rooted j redo all redo_marks spare jr mr rr rmr → record {
    kept : IsKept cmp slot_of keys uses slots root rooted j redo marks redo_marks 0 jr mr rr rmr;
    past : states keys slots j all ≡ states keys slots j marks ++ (live keys slots, 0) ∷ [];
  }
  unmark_parts all marks redo_marks n spare split none k =
      let k = rw split at k in
      let zero : n ≡ 0 = sym (last_count-states keys slots j marks n) ∙ ap (λ x. last_count (states keys slots j x)) (sym split) ∙ none in
      let divided : sum marks ≡ length j = omega (arith, k.back_ok.divided, sum_push marks n, zero) in
      record {
        kept = record {
          finds = k.finds;
          places = k.places;
          back_ok = record { within = k.back_ok.within; divided = divided };
          forward_ok = k.forward_ok;
          root_fits = k.root_fits;
          rooted_is = k.rooted_is;
          room = no_spare _ _ _ _ _ _ _ _ k.room.back (omega (arith, k.room.back_marks, length_push marks n)) (omega (arith, k.room.forward)) (omega (arith, k.room.forward_marks));
        };
        past = rw (split, zero) (ap (λ j. states keys slots j (marks ++ 0 ∷ [])) (sym (append-nil j)) ∙ states-append keys slots j [] marks 0 divided);
      }

  -- what `drop_oldest` does, where all marks are n and then `marks`
  pub oldest_parts : (all marks redo_marks : List ℕ) (n spare : ℕ) {uses' : List ℕ} → Follows uses uses' j (drop n j) → {jr mr rr rmr : ℕ} → all ≡ n ∷ marks → IsKept cmp slot_of keys uses slots root rooted j redo all redo_marks spare jr mr rr rmr → record {
    kept : IsKept cmp slot_of keys uses' slots root rooted (drop n j) redo marks redo_marks 0 jr mr rr rmr;
    past : states keys slots (drop n j) marks ≡ drop 1 (states keys slots j all);
  }
  oldest_parts all marks redo_marks n spare f split k =
      let k = rw split at k in
      let total = sum_cons n marks in
      let few : n ≤ length j = omega (arith, k.back_ok.divided, total) in
      record {
        kept = record {
          finds = k.finds;
          places = places_drop k.places n f;
          back_ok = record { within = All-drop (λ c. c.0 < length slots) n j k.back_ok.within; divided = omega (arith, k.back_ok.divided, total, length-drop n j) };
          forward_ok = k.forward_ok;
          root_fits = k.root_fits;
          rooted_is = k.rooted_is;
          room = no_spare _ _ _ _ _ _ _ _ (omega (arith, k.room.back, length-drop n j)) (omega (arith, k.room.back_marks)) (omega (arith, k.room.forward)) (omega (arith, k.room.forward_marks));
        };
        past = rw split refl;
      }

  -- as many changes as the oldest mark has are there
  pub oldest_few : (all marks redo_marks : List ℕ) (n spare : ℕ) {jr mr rr rmr : ℕ} → all ≡ n ∷ marks → IsKept cmp slot_of keys uses slots root rooted j redo all redo_marks spare jr mr rr rmr → n ≤ length j
  oldest_few all marks redo_marks n spare split k = let k = rw split at k in omega (arith, k.back_ok.divided, sum_cons n marks)

  -- what `hold` does
  pub hold_parts : IsTotalOrder cmp → (all marks redo_marks : List ℕ) (n spare before : ℕ) {jr mr rr rmr : ℕ} → all ≡ marks ++ n ∷ [] → before ≡ spare + 1 → IsKept cmp slot_of keys uses slots root rooted j redo all redo_marks before jr mr rr rmr → (reverse (states keys root redo redo_marks) ≡ []) ⊎ SameValues cmp (live keys slots) rooted → record {
    few : n ≤ length j;
    room : length redo + n ≤ rr;
    marks_room : length redo_marks < rmr;
    kept : IsKept cmp slot_of keys uses (undo slots (drop (length j - n) j)) (undo slots (drop (length j - n) j)) (live keys (undo slots (drop (length j - n) j))) (take (length j - n) j) (redo ++ redo_of slots (drop (length j - n) j)) marks (redo_marks ++ n ∷ []) spare jr mr rr rmr;
    past : states keys slots j all ≡ states keys (undo slots (drop (length j - n) j)) (take (length j - n) j) marks ++ (live keys (undo slots (drop (length j - n) j)), n) ∷ [];
    ahead : reverse (states keys (undo slots (drop (length j - n) j)) (redo ++ redo_of slots (drop (length j - n) j)) (redo_marks ++ n ∷ [])) ≡ (live keys slots, n) ∷ reverse (states keys root redo redo_marks);
  }
  hold_parts o all marks redo_marks n spare before split less k begins =
      let k = rw (split, less) at k in
      let l = last_few (length slots) j marks n k.back_ok in
      let total = last_changes-push marks n spare (omega (arith, k.room.few, length_push marks n)) in
      let turn = turned keys slots (drop (length j - n) j) redo redo_marks n k.forward_ok.divided in
      let same = same_ahead o k begins in
      record {
        few = l.few;
        room = omega (arith, k.room.forward, total);
        marks_room = omega (arith, k.room.forward_marks);
        kept = hold_kept marks redo_marks n spare k;
        past = rw split (last_state keys slots (length slots) j marks n k.back_ok);
        ahead = ap reverse turn ∙ reverse-append (states keys slots redo redo_marks) ((live keys slots, n) ∷ []) ∙ ap (λ x. (live keys slots, n) ∷ reverse x) same;
      }

  -- what `again` does
  pub again_parts : IsTotalOrder cmp → (all marks redo_marks : List ℕ) (n spare : ℕ) {jr mr rr rmr : ℕ} → all ≡ redo_marks ++ n ∷ [] → IsKept cmp slot_of keys uses slots root rooted j redo marks all spare jr mr rr rmr → SameValues cmp (live keys slots) rooted → record {
    few : n ≤ length redo;
    within : All (λ c. c.0 < length slots) redo;
    room : length j + n ≤ jr;
    marks_room : length marks < mr;
    kept : IsKept cmp slot_of keys uses (undo slots (drop (length redo - n) redo)) (undo slots (drop (length redo - n) redo)) (live keys (undo slots (drop (length redo - n) redo))) (j ++ redo_of slots (drop (length redo - n) redo)) (take (length redo - n) redo) (marks ++ n ∷ []) redo_marks 0 jr mr rr rmr;
    past : states keys (undo slots (drop (length redo - n) redo)) (j ++ redo_of slots (drop (length redo - n) redo)) (marks ++ n ∷ []) ≡ states keys slots j marks ++ (live keys slots, n) ∷ [];
    ahead : reverse (states keys root redo all) ≡ (live keys (undo slots (drop (length redo - n) redo)), n) ∷ reverse (states keys (undo slots (drop (length redo - n) redo)) (take (length redo - n) redo) redo_marks);
  }
  again_parts o all marks redo_marks n spare split k begins =
      let k = rw split at k in
      let l = last_few (length root) redo redo_marks n k.forward_ok in
      let seg = drop (length redo - n) redo in
      let alike = alike_from_values k.finds slots root (subst (λ m. SameValues cmp (live keys slots) m) (k.rooted_is (omega (arith, length_push redo_marks n))) begins) in
      let after = alike_undo keys slots root seg l.last k.root_fits alike in
      let later = alike_states keys (undo slots seg) (undo root seg) (take (length redo - n) redo) redo_marks (λ i d lt. omega (arith, l.rest.within i d lt, length-undo root seg)) (omega (arith, k.root_fits, length-undo root seg, length-undo slots seg)) after in
      let was = last_state keys root (length root) redo redo_marks n k.forward_ok in
      record {
        few = l.few;
        within = λ i d lt. omega (arith, k.forward_ok.within i d lt, k.root_fits);
        room = omega (arith, k.room.back, l.few);
        marks_room = omega (arith, k.room.back_marks, length_push redo_marks n);
        kept = again_kept marks redo_marks n spare k;
        past = turned keys slots seg j marks n k.back_ok.divided;
        ahead = rw (split, alike_live keys (undo slots seg) (undo root seg) after, later) (ap reverse was ∙ reverse-append (states keys (undo root seg) (take (length redo - n) redo) redo_marks) ((live keys (undo root seg), n) ∷ []));
      }

-- the last change that is left of j after i of them
pub last_left : {V : Type 0} (slots : List (Option V)) (j left : List (ℕ × Option V)) (i : ℕ) (c : ℕ × Option V) → i < length j → left ≡ take (length j - i) j → c ≡ get_or left (length left - 1) c → record {
  from : take (length left - 1) left ≡ take (length j - (i + 1)) j;
  at : get_or j (length j - (i + 1)) c ≡ c;
  undone : set (undo slots (drop (length j - i) j)) c.0 c.1 ≡ undo slots (drop (length j - (i + 1)) j);
  to : redo_of slots (drop (length j - (i + 1)) j) ≡ redo_of slots (drop (length j - i) j) ++ (c.0, get_or (undo slots (drop (length j - i) j)) c.0 None) ∷ [];
}
last_left slots j left i c lt is last =
    let len : length left ≡ length j - i = ap length is ∙ length-take (length j - i) j ∙ omega arith in
    let place : length left - 1 ≡ length j - (i + 1) = omega arith in
    let read : get_or left (length left - 1) c ≡ get_or j (length j - (i + 1)) c = rw place (ap (λ x. get_or x (length j - (i + 1)) c) is ∙ get_or-take (length j - i) j (length j - (i + 1)) c (omega arith)) in
    let here : get_or j (length j - (i + 1)) c ≡ c = sym (last ∙ read) in
    let next : suc (length j - (i + 1)) ≡ length j - i = omega arith in
    let rest = ap (λ n. drop n j) next in
    let split = drop-cons j (length j - (i + 1)) c (omega arith) in
    let whole : drop (length j - (i + 1)) j ≡ c ∷ drop (length j - i) j = cc in
    record {
      from = rw place (ap (take (length j - (i + 1))) is ∙ take-take (length j - (i + 1)) (length j - i) j (omega arith));
      at = here;
      undone = sym (ap (undo slots) whole);
      to = redo_more slots j i c lt here;
    }

-- its slot is one of those that are left
pub left_within : {V : Type 0} (slots : List (Option V)) (j left : List (ℕ × Option V)) (i : ℕ) (c : ℕ × Option V) → i < length j → left ≡ take (length j - i) j → c ≡ get_or left (length left - 1) c → All (λ c. c.0 < length slots) j → c.0 < length (undo slots (drop (length j - i) j))
left_within slots j left i c lt is last all =
    let parts = last_left slots j left i c lt is last in
    let there = all (length j - (i + 1)) c (omega arith) in
    omega (arith, there, ap (λ x. x.0) parts.at, length-undo slots (drop (length j - i) j))
