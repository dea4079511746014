-- How a table keeps its other maps: a journal says what the slots held, and marks divide it. These words mirror the code.
use Rattle.std.specs.Prelude.{◌≡◌, ℕ, ◌+◌, ◌-◌, ◌<◌, ◌≤◌, List, [], ◌∷◌, ◌++◌, length, drop, Option, None, cond, nat_eq, get_or, set}
use Rattle.std.specs.declared.cmp.Ordering.{Ordering}
use Rattle.std.specs.List.{All, sum}
use Rattle.dubp_journal.specs.Slots.{Finds, IsDead, live}

module _ {V : Type 0} where
  -- the slots before the changes of the journal j, of which the last is undone first
  abbrev pub undo : List (Option V) → List (ℕ × Option V) → List (Option V)
  undo slots [] = slots
  undo slots (c ∷ j) = set (undo slots j) c.0 c.1

  -- the changes that undo the undoing of j
  abbrev pub redo_of : List (Option V) → List (ℕ × Option V) → List (ℕ × Option V)
  redo_of slots [] = []
  redo_of slots (c ∷ j) = redo_of slots j ++ (c.0, get_or (undo slots j) c.0 None) ∷ []

  -- how many changes of j name the slot i
  abbrev pub named : ℕ → List (ℕ × Option V) → ℕ
  named i [] = 0
  named i (c ∷ j) = cond (nat_eq c.0 i) 1 0 + named i j

  -- the journal with one more change, where there is a mark
  abbrev pub noted : List ℕ → List (ℕ × Option V) → ℕ × Option V → List (ℕ × Option V)
  noted [] j c = j
  noted (n ∷ marks) j c = j ++ c ∷ []

  -- each change is of one of n slots, and the marks divide the journal
  pub record IsJournal (n : ℕ) (j : List (ℕ × Option V)) (marks : List ℕ) : Type 0 where
    pub within : All (λ c. c.0 < n) j
    pub divided : sum marks ≡ length j

-- one more after the last mark
abbrev pub bump : List ℕ → List ℕ
bump [] = []
bump (n ∷ []) = (n + 1) ∷ []
bump (m ∷ n ∷ marks) = m ∷ bump (n ∷ marks)

-- how many changes come after the mark at which the last n begin
abbrev pub last_changes : List ℕ → ℕ → ℕ
last_changes marks n = sum (drop (length marks - n) marks)

-- the maps at the marks, each with how many changes of j come after it
abbrev pub states : {K V : Type 0} → List (Option K) → List (Option V) → List (ℕ × Option V) → List ℕ → List (List (K × V) × ℕ)
states keys slots j [] = []
states keys slots j (n ∷ marks) = (live keys (undo slots j), n) ∷ states keys slots (drop n j) marks

-- the room that the ways back and forward have, in queues of these capacities
pub record HasRoom {V : Type 0} (j redo : List (ℕ × Option V)) (marks redo_marks : List ℕ) (spare journal_room marks_room redo_room redo_marks_room : ℕ) : Type 0 where
  pub back : length j + length redo ≤ journal_room
  pub back_marks : length marks + length redo_marks ≤ marks_room
  pub few : spare ≤ length marks
  pub forward : length redo + last_changes marks spare ≤ redo_room
  pub forward_marks : length redo_marks + spare ≤ redo_marks_room

-- the counts of changes follow a journal from j to j'
pub record Follows {V : Type 0} (uses uses' : List ℕ) (j j' : List (ℕ × Option V)) : Type 0 where
  pub same_length : length uses' ≡ length uses
  pub each : (i : ℕ) → get_or uses' i 0 + named i j ≡ get_or uses i 0 + named i j'

-- how many changes name each slot is counted, and a slot without a key has nothing in it, holds nothing at the root, and no change names it
pub record HasPlaces {K V : Type 0} (keys : List (Option K)) (uses : List ℕ) (slots root : List (Option V)) (j redo : List (ℕ × Option V)) : Type 0 where
  pub keys_each : length keys ≡ length slots
  pub uses_each : length uses ≡ length slots
  pub counted : (i : ℕ) → get_or uses i 0 ≡ named i j + named i redo
  pub free : (i : ℕ) → get_or keys i None ≡ None → IsDead uses slots i
  pub free_root : (i : ℕ) → get_or keys i None ≡ None → get_or root i None ≡ None

-- the whole: each key has a slot, both journals fit their slots, there is room for the ways back and forward, and the map from which the
-- way ahead goes on is what the slots there hold, as long as anything is ahead
pub record IsKept {K V : Type 0} (cmp : K → K → Ordering) (slot_of : K → Option ℕ) (keys : List (Option K)) (uses : List ℕ) (slots root : List (Option V)) (rooted : List (K × V)) (j redo : List (ℕ × Option V)) (marks redo_marks : List ℕ) (spare journal_room marks_room redo_room redo_marks_room : ℕ) : Type 0 where
  pub finds : Finds cmp slot_of keys
  pub places : HasPlaces keys uses slots root j redo
  pub back_ok : IsJournal (length slots) j marks
  pub forward_ok : IsJournal (length root) redo redo_marks
  pub root_fits : length root ≤ length slots
  pub rooted_is : 0 < length redo_marks → rooted ≡ live keys root
  pub room : HasRoom j redo marks redo_marks spare journal_room marks_room redo_room redo_marks_room
