-- What the parts of a choice ensure.
use Rattle.std.specs.Prelude.{◌≡◌, ◌⊎◌, ℕ, Bool, true, false, List, [], ◌∷◌, ◌++◌}
use Rattle.dubp_atoms.specs.declared.stamp.Stamp.{Stamp}
use Rattle.dubp_choosing.specs.States.{choosing}
use Rattle.dubp_replay.specs.Answers.{failed_line, no_memory_answer, stored_answer, switched_answer}
use Rattle.dubp_replay.specs.declared.failure.Failure.{Failure}
use Rattle.dubp_replay.specs.Turns.{Branches, Chooses, Fails, Succeeds, left_over, without}

-- a switch to this choice came to an end: it took place, and nothing is left to choose; or it failed, and its failure is noted. The line that
-- says so stands behind the text.
abbrev pub TriedOne : Branches → List Failure → List ℕ → Stamp → Bool → Branches → List Failure → List ℕ → Type 0
TriedOne b failures text tip true new left lines =
    Succeeds (choosing b failures) tip (choosing new left) × (left_over new.store left ≡ left) × (lines ≡ text ++ switched_answer tip)
TriedOne b failures text tip false new left lines =
    (f : Failure) × (f.tip ≡ tip) × Fails (choosing b failures) f (choosing b (failures ++ f ∷ [])) × (new ≡ b) × (left ≡ failures ++ f ∷ []) × (lines ≡ text ++ failed_line f)

-- some choices failed, which is noted
abbrev pub AreTried : Branches → List Failure → Branches → List Failure → Type 0
AreTried b failures new left = (new ≡ b) × (more : List Failure) × (left ≡ failures ++ more)

-- the node chose behind an offer, or memory ran out, and the block that was offered left the store
abbrev pub ChoosesBehind : Stamp → Branches → List Failure → List ℕ → Branches → List Failure → Type 0
ChoosesBehind stamp b failures answer new left =
    (Chooses (stored_answer stamp) (choosing b failures) answer (choosing new left) × (left_over new.store left ≡ left))
    ⊎ ((answer ≡ no_memory_answer) × (new ≡ record b { store = without stamp b.store }) × (left ≡ failures))
