-- What the journal and its marks say: undoing, the maps at the marks, and the room for the ways back and forward.
use Rattle.std.proofs.Common.{◌≡◌, ℕ, suc, ◌+◌, ◌-◌, ◌<◌, ◌≤◌, List, [], ◌∷◌, ◌++◌, length, get_or, set, take, drop, Option, None, refl, sym, ap, ◌∙◌, arith, length-append, append-nil}
use Rattle.std.specs.declared.cmp.Ordering.{Ordering}
use Rattle.std.specs.List.{All, sum}
use Rattle.std.proofs.lemmas.List.Sums.{sum_by-append, sum_by-cons}
use Rattle.std.proofs.lemmas.List.{drop_all, length-set, set-set, set-get_or, drop-append-le, length-drop, length-take, take-append-drop, length_push}
use Rattle.std.proofs.lemmas.List.Elements.{All-append, All-take, All-drop}
use Rattle.std.proofs.Math.Seq.{drop-cons}
use Rattle.dubp_journal.specs.MovingTable.{last_count}
use Rattle.dubp_journal.specs.Slots.{live}
use Rattle.dubp_journal.specs.Journal.{undo, states, last_changes, IsJournal, HasRoom, IsKept}

-- undoing
pub length-undo : {V : Type 0} (slots : List (Option V)) (j : List (ℕ × Option V)) → length (undo slots j) ≡ length slots
length-undo slots [] = refl
length-undo slots (c ∷ j) = length-set (undo slots j) c.0 c.1 ∙ length-undo slots j

pub undo-append : {V : Type 0} (slots : List (Option V)) (j k : List (ℕ × Option V)) → undo slots (j ++ k) ≡ undo (undo slots k) j
undo-append slots [] k = refl
undo-append slots (c ∷ j) k = ap (λ x. set x c.0 c.1) (undo-append slots j k)

-- a change that is noted and undone
pub undo-set : {V : Type 0} (slots : List (Option V)) (i : ℕ) (v : Option V) → undo (set slots i v) ((i, get_or slots i None) ∷ []) ≡ slots
undo-set slots i v = set-set slots i v (get_or slots i None) ∙ set-get_or slots i None

-- the marks
pub sum_cons : (n : ℕ) (ns : List ℕ) → sum (n ∷ ns) ≡ n + sum ns
sum_cons n ns = sum_by-cons (λ x. x) n ns

pub sum_push : (marks : List ℕ) (n : ℕ) → sum (marks ++ n ∷ []) ≡ sum marks + n
sum_push marks n = sum_by-append (λ x. x) marks (n ∷ []) ∙ omega arith

pub last_changes-none : (marks : List ℕ) → last_changes marks 0 ≡ 0
last_changes-none marks = rw (drop_all (length marks - 0) marks (omega arith)) refl

-- the last few are part of all
pub last_changes-le : (marks : List ℕ) (n : ℕ) → last_changes marks n ≤ sum marks
last_changes-le marks n =
    let split = ap sum (take-append-drop (length marks - n) marks) in
    let parts = sum_by-append (λ x. x) (take (length marks - n) marks) (drop (length marks - n) marks) in
    omega (arith, split, parts)

pub last_changes-push : (marks : List ℕ) (n few : ℕ) → few ≤ length marks → last_changes (marks ++ n ∷ []) (few + 1) ≡ last_changes marks few + n
last_changes-push marks n few le =
    let at : length (marks ++ n ∷ []) - (few + 1) ≡ length marks - few = omega (arith, length_push marks n) in
    rw (at, drop-append-le (length marks - few) marks (n ∷ []) (omega arith)) (sum_push (drop (length marks - few) marks) n)

-- one mark more from the end
pub last_changes-more : (marks : List ℕ) (i n len : ℕ) → len ≡ length marks → i < length marks → n ≡ get_or marks (len - 1 - i) n → last_changes marks (i + 1) ≡ last_changes marks i + n
last_changes-more marks i n len all lt is =
    let next : suc (length marks - (i + 1)) ≡ length marks - i = omega arith in
    let at : len - 1 - i ≡ length marks - (i + 1) = omega arith in
    let read : get_or marks (length marks - (i + 1)) n ≡ n = ap (λ k. get_or marks k n) (sym at) ∙ sym is in
    let rest = ap (λ k. drop k marks) next in
    let split = drop-cons marks (length marks - (i + 1)) n (omega arith) in
    let whole : drop (length marks - (i + 1)) marks ≡ n ∷ drop (length marks - i) marks = cc in
    ap sum whole ∙ sum_cons n (drop (length marks - i) marks) ∙ omega arith

-- the maps at the marks
pub length-states : {K V : Type 0} (keys : List (Option K)) (slots : List (Option V)) (j : List (ℕ × Option V)) (marks : List ℕ) → length (states keys slots j marks) ≡ length marks
length-states keys slots j [] = refl
length-states keys slots j (n ∷ marks) = ap suc (length-states keys slots (drop n j) marks)

-- the last segment comes off
pub states-append : {K V : Type 0} (keys : List (Option K)) (slots : List (Option V)) (j k : List (ℕ × Option V)) (marks : List ℕ) (n : ℕ) → sum marks ≡ length j → states keys slots (j ++ k) (marks ++ n ∷ []) ≡ states keys (undo slots k) j marks ++ (live keys (undo slots k), n) ∷ []
states-append keys slots [] k [] n e = refl
states-append keys slots (c ∷ j) k [] n e = cc
states-append keys slots j k (m ∷ marks) n e =
    let added : sum (m ∷ marks) ≡ m + sum marks = sum_cons m marks in
    let le : m ≤ length j = omega (arith, e, added) in
    let rest : sum marks ≡ length (drop m j) = omega (arith, length-drop m j, e, added) in
    rw (undo-append slots j k, drop-append-le m j k le) (ap (λ x. (live keys (undo (undo slots k) j), m) ∷ x) (states-append keys slots (drop m j) k marks n rest))

pub last_count-states : {K V : Type 0} (keys : List (Option K)) (slots : List (Option V)) (j : List (ℕ × Option V)) (marks : List ℕ) (n : ℕ) → last_count (states keys slots j (marks ++ n ∷ [])) ≡ n
last_count-states keys slots j [] n = refl
last_count-states keys slots j (m ∷ []) n = refl
last_count-states keys slots j (m ∷ x ∷ marks) n = last_count-states keys slots (drop m j) (x ∷ marks) n

-- the last segment
pub parted : {X : Type 0} (j : List X) (n : ℕ) → n ≤ length j → record { whole : j ≡ take (length j - n) j ++ drop (length j - n) j; front : length (take (length j - n) j) ≡ length j - n; back : length (drop (length j - n) j) ≡ n }
parted j n le = record { whole = sym (take-append-drop (length j - n) j); front = length-take (length j - n) j ∙ omega arith; back = length-drop (length j - n) j ∙ omega arith }

pub last_few : {V : Type 0} (n : ℕ) (j : List (ℕ × Option V)) (marks : List ℕ) (k : ℕ) → IsJournal n j (marks ++ k ∷ []) → record { few : k ≤ length j; rest : IsJournal n (take (length j - k) j) marks; last : All (λ c. c.0 < n) (drop (length j - k) j) }
last_few n j marks k ok =
    let total : sum marks + k ≡ length j = sym (sum_push marks k) ∙ ok.divided in
    let few : k ≤ length j = omega arith in
    record {
      few = few;
      rest = record { within = All-take (λ c. c.0 < n) (length j - k) j ok.within; divided = omega (arith, (parted j k few).front) };
      last = All-drop (λ c. c.0 < n) (length j - k) j ok.within;
    }

-- the maps, the last of which comes off
pub last_state : {K V : Type 0} (keys : List (Option K)) (slots : List (Option V)) (m : ℕ) (j : List (ℕ × Option V)) (marks : List ℕ) (n : ℕ) → IsJournal m j (marks ++ n ∷ []) → states keys slots j (marks ++ n ∷ []) ≡ states keys (undo slots (drop (length j - n) j)) (take (length j - n) j) marks ++ (live keys (undo slots (drop (length j - n) j)), n) ∷ []
last_state keys slots m j marks n ok =
    let l = last_few m j marks n ok in
    ap (λ x. states keys slots x (marks ++ n ∷ [])) (parted j n l.few).whole ∙ states-append keys slots (take (length j - n) j) (drop (length j - n) j) marks n l.rest.divided

pub push_journal : {V : Type 0} (n : ℕ) (j k : List (ℕ × Option V)) (marks : List ℕ) (m : ℕ) → IsJournal n j marks → All (λ c. c.0 < n) k → length k ≡ m → IsJournal n (j ++ k) (marks ++ m ∷ [])
push_journal n j k marks m ok all is = record { within = All-append (λ c. c.0 < n) j k ok.within all; divided = sum_push marks m ∙ omega (arith, length-append j k, ok.divided) }

-- the room
-- no way forward is promised
pub no_spare : {V : Type 0} (j redo : List (ℕ × Option V)) (marks redo_marks : List ℕ) (jr mr rr rmr : ℕ) → length j + length redo ≤ jr → length marks + length redo_marks ≤ mr → length redo ≤ rr → length redo_marks ≤ rmr → HasRoom j redo marks redo_marks 0 jr mr rr rmr
no_spare j redo marks redo_marks jr mr rr rmr a b c d = record { back = a; back_marks = b; few = omega arith; forward = omega (arith, last_changes-none marks); forward_marks = omega arith }

module _ {K V : Type 0} {cmp : K → K → Ordering} {slot_of : K → Option ℕ} {keys : List (Option K)} {uses : List ℕ} {slots root : List (Option V)} {rooted : List (K × V)} {j redo : List (ℕ × Option V)} {marks redo_marks : List ℕ} {spare jr mr rr rmr : ℕ} (k : IsKept cmp slot_of keys uses slots root rooted j redo marks redo_marks spare jr mr rr rmr) where
  -- more room in any of the queues
  pub wider_kept : (jr' mr' rr' rmr' : ℕ) → jr ≤ jr' → mr ≤ mr' → rr ≤ rr' → rmr ≤ rmr' → IsKept cmp slot_of keys uses slots root rooted j redo marks redo_marks spare jr' mr' rr' rmr'
  wider_kept jr' mr' rr' rmr' a b c d = record {
    finds = k.finds;
    places = k.places;
    back_ok = k.back_ok;
    forward_ok = k.forward_ok;
    root_fits = k.root_fits;
    rooted_is = k.rooted_is;
    room = record {
      back = omega (arith, k.room.back, a);
      back_marks = omega (arith, k.room.back_marks, b);
      few = k.room.few;
      forward = omega (arith, k.room.forward, c);
      forward_marks = omega (arith, k.room.forward_marks, d);
    };
  }

  -- room for the last n segments
  pub spared_kept : (n rr' rmr' : ℕ) → n ≤ length marks → length redo + last_changes marks n ≤ rr' → length redo_marks + n ≤ rmr' → IsKept cmp slot_of keys uses slots root rooted j redo marks redo_marks n jr mr rr' rmr'
  spared_kept n rr' rmr' few le le' = record {
    finds = k.finds;
    places = k.places;
    back_ok = k.back_ok;
    forward_ok = k.forward_ok;
    root_fits = k.root_fits;
    rooted_is = k.rooted_is;
    room = record { back = k.room.back; back_marks = k.room.back_marks; few = few; forward = le; forward_marks = le' };
  }

  -- one mark more
  pub mark_kept : (m : ℕ) → length marks + (length redo_marks + 1) ≤ m → IsKept cmp slot_of keys uses slots root rooted j redo (marks ++ 0 ∷ []) redo_marks 0 jr m rr rmr
  mark_kept m fits = record {
    finds = k.finds;
    places = k.places;
    back_ok = record { within = k.back_ok.within; divided = sum_push marks 0 ∙ omega (arith, k.back_ok.divided) };
    forward_ok = k.forward_ok;
    root_fits = k.root_fits;
    rooted_is = k.rooted_is;
    room = no_spare _ _ _ _ _ _ _ _ k.room.back (omega (arith, fits, length-append marks (0 ∷ []))) (omega (arith, k.room.forward)) (omega (arith, k.room.forward_marks));
  }

  pub mark_states : states keys slots j (marks ++ 0 ∷ []) ≡ states keys slots j marks ++ (live keys slots, 0) ∷ []
  mark_states = ap (λ j. states keys slots j (marks ++ 0 ∷ [])) (sym (append-nil j)) ∙ states-append keys slots j [] marks 0 k.back_ok.divided
