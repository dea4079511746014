-- What the choice is in small cases.
use Rattle.std.specs.Prelude.{◌≡◌, ◌-◌, ℕ, List, [], ◌∷◌, Option, Some, None, refl, length}
use Rattle.std.specs.Option.{option_map}
use Rattle.dubp_atoms.specs.declared.stamp.Stamp.{Stamp}
use Rattle.dubp_resolve.specs.declared.view.Offered.{Offered}
use Rattle.dubp_resolve.specs.Choice.{Choices, choice, path_of}

-- block so many with such a hash
abbrev stamp : ℕ → ℕ → Stamp
stamp number hash = record { number = number; hash = hash ∷ [] }

abbrev block : ℕ → ℕ → ℕ → Offered
block number hash before = record { stamp = stamp number hash; previous = Some (stamp (number - 1) before) }

-- on the chain 0-7, 1-8, 2-9 with branches of these blocks, where some failed before
abbrev on_three : List Offered → List Stamp → Choices
on_three offers failed =
    record { offers = offers; recent = stamp 0 7 ∷ stamp 1 8 ∷ stamp 2 9 ∷ []; length = 3; kept = 2; failed = failed }

abbrev chosen : Choices → Option Stamp
chosen v = option_map (λ b. b.stamp) (choice v)

-- a branch behind block 0
abbrev branch : List Offered
branch = block 5 25 24 ∷ block 3 23 22 ∷ block 1 21 7 ∷ block 4 24 23 ∷ block 2 22 21 ∷ []

-- nothing is stored
nothing : chosen (on_three [] []) ≡ None
nothing = refl

-- a branch of two blocks more is chosen, in whatever order its blocks came
longer : chosen (on_three branch []) ≡ Some (stamp 5 25)
longer = refl

its_path : length (path_of (on_three branch []) (block 5 25 24)).blocks ≡ 5
its_path = refl

-- a branch of one block more is not
one_more : chosen (on_three (block 1 21 7 ∷ block 2 22 21 ∷ block 3 23 22 ∷ []) []) ≡ None
one_more = refl

-- a failure keeps the blocks from there on out
failed_in_the_middle : chosen (on_three branch (stamp 3 23 ∷ [])) ≡ None
failed_in_the_middle = refl

-- a branch that lacks a block in between is detached
detached : chosen (on_three (block 5 25 24 ∷ block 4 24 23 ∷ block 2 22 21 ∷ block 1 21 7 ∷ []) []) ≡ None
detached = refl

-- of two blocks of one number the first is chosen
first_of_equals : chosen (on_three (block 3 23 9 ∷ block 4 34 23 ∷ block 5 25 24 ∷ block 5 35 34 ∷ block 4 24 23 ∷ block 5 45 34 ∷ []) []) ≡ Some (stamp 5 25)
first_of_equals = refl

-- a branch that begins with a block 0 stands on the empty chain, and reverses all: too deep here
from_the_start : chosen (on_three (record { stamp = stamp 0 50; previous = None } ∷ block 1 51 50 ∷ block 2 52 51 ∷ block 3 53 52 ∷ block 4 54 53 ∷ block 5 55 54 ∷ []) []) ≡ None
from_the_start = refl

-- on the empty chain it is chosen from its second block on
on_the_empty_chain : chosen (record { offers = record { stamp = stamp 0 50; previous = None } ∷ block 1 51 50 ∷ block 2 52 51 ∷ []; recent = []; length = 0; kept = 0; failed = [] }) ≡ Some (stamp 2 52)
on_the_empty_chain = refl
