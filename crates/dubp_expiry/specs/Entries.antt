-- The entries of the queue after a block, as a set in their order, and what a search for the next one finds. Protocol: tables.
use Rattle.std.specs.Prelude.{◌≡◌, ◌⊎◌, ℕ, ◌<◌, ◌≤◌, true, cond, nat_le, List, Option, None, Some}
use Rattle.std.specs.BTreeMap.Range.{IsLeBy, IsLtBy}
use Rattle.std.specs.Coded.{Coded, code_by, coded×, coded⊎, coded_ℕ, coded_list}
use Rattle.std.specs.FinMap.{FinMap, contains_key, empty, get, from_entries, len}
use Rattle.std.specs.Ordering.{nat_cmp, ordering_then}
use Rattle.std.specs.Option.{option_cmp}
use Rattle.std.specs.declared.cmp.Ordering.{Ordering}
use Rattle.std.proofs.Common.{refl, inl, inr}
use Rattle.dubp_undo.specs.States.{newest}
use Rattle.dubp_expiry.specs.DueOrder.{due_cmp, entry_cmp}
use Rattle.dubp_expiry.specs.declared.due.Due.{Due}
use Rattle.dubp_expiry.specs.declared.due.Due.TheVariants.{Membership, Revocation, Certification}
use Rattle.dubp_expiry.specs.declared.due.Behind.{Behind}
use Rattle.dubp_expiry.specs.declared.due.Behind.TheVariants.{Time, Entry}

-- the set of entries: at which time what falls due
abbrev pub Queued : Type 0
Queued = FinMap entry_cmp (Unit {0})

-- the entries after the last block
abbrev pub queued : List Queued → Queued
queued states = newest empty states

-- the entry is one of the state
abbrev pub Has : Queued → ℕ × Due → Type 0
Has q e = contains_key q e ≡ true

-- the entry stands behind the place
abbrev pub IsBehind : Behind → ℕ × Due → Type 0
IsBehind (Time time) e = time < e.0
IsBehind (Entry time due) e = IsLtBy entry_cmp (time, due) e

-- e is the least entry that passes P, and its time is at most now
pub record IsNextDue (q : Queued) (P : ℕ × Due → Type 0) (now : ℕ) (e : ℕ × Due) : Type 0 where
  pub has : Has q e
  pub passes : P e
  pub due : e.0 ≤ now
  pub least : (f : ℕ × Due) → Has q f → P f → IsLeBy entry_cmp e f

-- each entry that passes P is of a time later than now
abbrev pub NoneIsDue : Queued → (ℕ × Due → Type 0) → ℕ → Type 0
NoneIsDue q P now = (f : ℕ × Due) → Has q f → P f → now < f.0

-- What follows mirrors the code. The table has an entry under its time and what falls due; a key with a time alone stands before the
-- entries of that time, and the table has nothing there.
abbrev pub Place : Type 0
Place = ℕ × Option Due

abbrev pub in_place : Queued → ℕ → Option Due → Option (Unit {0})
in_place q time None = None
in_place q time (Some due) = get q (time, due)

abbrev pub entry_at : List Queued → Place → Option (Unit {0})
entry_at states place = in_place (queued states) place.0 place.1

-- the order of the table's keys, where D is that of what falls due
abbrev pub place_cmp : (Due → Due → Ordering) → Place → Place → Ordering
place_cmp D x y = ordering_then (nat_cmp x.0 y.0) (option_cmp D x.1 y.1)

-- the entry found, where its time is at most now
abbrev pub until_now : ℕ → Option (Place × Unit {0}) → Option (ℕ × Due)
until_now now None = None
until_now now (Some ((time, None), v)) = None
until_now now (Some ((time, Some due), v)) = cond (nat_le time now) (Some (time, due)) None

-- how many entries the table has
abbrev pub how_many : List (Place × Unit {0}) → ℕ
how_many table = len (from_entries {R = place_cmp due_cmp} table)

-- what falls due, as keys
abbrev pub due_keys : Due → List ℕ ⊎ (List ℕ ⊎ (List ℕ × List ℕ))
due_keys (Membership key) = inl key
due_keys (Revocation key) = inr (inl key)
due_keys (Certification from to) = inr (inr (from, to))

abbrev pub due_of_keys : List ℕ ⊎ (List ℕ ⊎ (List ℕ × List ℕ)) → Due
due_of_keys (inl key) = Membership key
due_of_keys (inr (inl key)) = Revocation key
due_of_keys (inr (inr keys)) = Certification keys.0 keys.1

pub due_of_keys-due_keys : (due : Due) → due_of_keys (due_keys due) ≡ due
due_of_keys-due_keys (Membership key) = refl
due_of_keys-due_keys (Revocation key) = refl
due_of_keys-due_keys (Certification from to) = refl

abbrev pub due_code : Coded Due
due_code =
    code_by (List ℕ ⊎ (List ℕ ⊎ (List ℕ × List ℕ))) (coded⊎ (coded_list coded_ℕ) (coded⊎ (coded_list coded_ℕ) (coded× (coded_list coded_ℕ) (coded_list coded_ℕ))))
    due_keys due_of_keys due_of_keys-due_keys
