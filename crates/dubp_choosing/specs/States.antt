-- The state that branches make together with what was chosen among them and the documents that wait. Protocol: choice.
use Rattle.std.specs.Prelude.{◌≡◌, ◌+◌, Bool, true, List, [], ◌∷◌, map, reverse, take, Option, Some, None}
use Rattle.std.specs.Option.{option_map}
use Rattle.dubp_atoms.specs.declared.stamp.Stamp.{Stamp}
use Rattle.dubp_block.specs.Text.{stamp_of}
use Rattle.dubp_resolve.specs.Choice.{Choices, choice}
use Rattle.dubp_replay.specs.declared.failure.Failure.{Failure}
use Rattle.dubp_replay.specs.OfForging.{Doc}
use Rattle.dubp_replay.specs.Turns.{Branches, State, choices_of}

abbrev pub state_with : List Doc → Branches → Bool → List Failure → State
state_with pool b auto failures =
    record { verdicts = b.verdicts; chain = b.chain; kept = b.kept; store = b.store; auto = auto; failures = failures; pool = pool }

-- while the node chooses by itself; a choice looks at no document that waits
abbrev pub choosing : Branches → List Failure → State
choosing b failures = state_with [] b true failures

-- this is the block to switch to
abbrev pub IsTipOf : Branches → List Failure → Option Stamp → Type 0
IsTipOf b failures tip = tip ≡ option_map (λ o. o.stamp) (choice (choices_of (choosing b failures)))

-- what a choice depends on, with the stamps of the last blocks alone, one more than can be reversed, in ascending number
abbrev pub seen_of : Branches → List Failure → Choices
seen_of b failures = record (choices_of (choosing b failures)) { recent = reverse (take (b.kept + 1) (map stamp_of b.chain)) }

-- none or one
abbrev pub list_of : Option Stamp → List Stamp
list_of None = []
list_of (Some s) = s ∷ []
