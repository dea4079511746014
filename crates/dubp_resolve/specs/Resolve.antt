-- Trying one branch after another, until one is switched to or none is left. Protocol: choice.
use Rattle.std.specs.Prelude.{◌≡◌, ◌⊎◌, ◌++◌, true, List, [], ◌∷◌, Some, None}
use Rattle.std.specs.List.{list_any}
use Rattle.std.specs.Option.{option_map}
use Rattle.dubp_atoms.specs.declared.stamp.Stamp.{Stamp}
use Rattle.dubp_resolve.specs.declared.view.Offered.{Offered}
use Rattle.dubp_resolve.specs.Choice.{Choices, choice, path_of, has_stamp}

-- a line of the answer: a branch was switched to, or it was tried and failed
pub data Line (Failure : Type 0) : Type 0 where
  Switched : (tip : Stamp) → Line Failure
  Failed : (failure : Failure) → Line Failure

-- What a switch to a stored block does: from a state it leads to another, or it fails, which is noted. A failure tells the branch by its
-- tip, and the block at which it failed.
module _ {State Failure : Type 0} (tip at : Failure → Stamp) (view : State → Choices) (Succeeds : State → Stamp → State → Type 0) (Fails : State → Failure → State → Type 0) where
  -- this is the block to switch to
  abbrev pub IsTip : State → Stamp → Type 0
  IsTip state stamp = option_map (λ b. b.stamp) (choice (view state)) ≡ Some stamp

  -- The lines of `resolve`, and the state that it leads to: the choice is tried, and where it fails, this is noted and `resolve` goes on. It
  -- ends with the first that succeeds, or where there is no candidate.
  abbrev pub Resolves : State → List (Line Failure) → State → Type 0
  Resolves old [] new = (choice (view old) ≡ None) × (new ≡ old)
  Resolves old (Failed f ∷ lines) new = IsTip old (tip f) × (middle : State) × Fails old f middle × Resolves middle lines new
  Resolves old (Switched stamp ∷ []) new = IsTip old stamp × Succeeds old stamp new
  Resolves old (Switched stamp ∷ (line ∷ lines)) new = ⊥

  -- a switch has one result
  pub record HasOneResult : Type 0 where
    pub success : (old : State) (stamp : Stamp) (new new' : State) → Succeeds old stamp new → Succeeds old stamp new' → new ≡ new'
    pub failure : (old : State) (f g : Failure) (new new' : State) → Fails old f new → Fails old g new' → tip f ≡ tip g → (f ≡ g) × (new ≡ new')
    pub either : (old : State) (f : Failure) (middle new : State) → Fails old f middle → Succeeds old (tip f) new → ⊥

  -- so has `resolve`
  abbrev pub IsDetermined : Type 0
  IsDetermined =
      (old : State) (lines lines' : List (Line Failure)) (new new' : State) → Resolves old lines new → Resolves old lines' new' → (lines ≡ lines') × (new ≡ new')

  -- with this failure noted
  abbrev pub IsNoted : State → Failure → State → Type 0
  IsNoted old f new = view new ≡ record (view old) { failed = (view old).failed ++ at f ∷ [] }

  -- the switch to a block succeeds, or fails at a block of its path
  abbrev pub IsTried : State → Offered → Type 0
  IsTried old b =
      ((new : State) × Succeeds old b.stamp new)
      ⊎ ((f : Failure) × (new : State) × Fails old f new × (tip f ≡ b.stamp) × (list_any (has_stamp (at f)) (path_of (view old) b).blocks ≡ true) × IsNoted old f new)

  -- each choice can be tried
  abbrev pub IsTotal : Type 0
  IsTotal = (state : State) (b : Offered) → choice (view state) ≡ Some b → IsTried state b

  -- `resolve` ends
  abbrev pub Ends : Type 0
  Ends = (old : State) → (lines : List (Line Failure)) × (new : State) × Resolves old lines new
