-- What a command does to the branches, as its turn of the state.
use Rattle.std.proofs.Common.{◌≡◌, ◌⊎◌, inl, inr, ℕ, List, Bool, refl, sym, ap, subst, ◌∙◌}
use Rattle.std.specs.Prelude.{⊤}
use Rattle.dubp_block.specs.declared.block.Block.{Block}
use Rattle.dubp_replay.specs.Answers.{no_memory_answer}
use Rattle.dubp_replay.specs.declared.command.Command.{Command}
use Rattle.dubp_replay.specs.declared.command.Command.TheVariants as command
use Rattle.dubp_replay.specs.declared.failure.Failure.{Failure}
use Rattle.dubp_replay.specs.Turns.{Branches, BranchesTurn, Only, State, TakesMemory, Turn, TurnOrLack, branches_of, left_over, onward}
use Rattle.dubp_choosing.specs.States.{state_with}
use Rattle.dubp_choosing.proofs.Failures.{onward_same}

-- the commands that look at the branches alone
abbrev pub IsPlain : Command → Type 0
IsPlain (command.Offer len) = ⊥
IsPlain (command.Auto on) = ⊥
IsPlain command.Failures = ⊥
IsPlain (command.Pend len) = ⊥
IsPlain (command.Unpend hash) = ⊥
IsPlain (command.Forge key time) = ⊥
IsPlain c = ⊤

pub plain_turn : (old : State) (c : Command) (frame answer : List ℕ) (b : Branches) → IsPlain c → BranchesTurn (branches_of old) c frame answer b → Turn old c frame answer (onward old b)
plain_turn old (command.Verdict key hash sig) frame answer b plain turn = (b, turn, refl)
plain_turn old (command.Block len) frame answer b plain turn = (b, turn, refl)
plain_turn old (command.Revert count) frame answer b plain turn = (b, turn, refl)
plain_turn old (command.Offer len) frame answer b plain turn = absurd plain
plain_turn old (command.Switch stamp) frame answer b plain turn = (b, turn, refl)
plain_turn old (command.Forget stamp) frame answer b plain turn = (b, turn, refl)
plain_turn old (command.Statement cond) frame answer b plain turn = (b, turn, refl)
plain_turn old (command.Auto on) frame answer b plain turn = absurd plain
plain_turn old command.Failures frame answer b plain turn = absurd plain
plain_turn old (command.Pend len) frame answer b plain turn = absurd plain
plain_turn old (command.Unpend hash) frame answer b plain turn = absurd plain
plain_turn old (command.Forge key time) frame answer b plain turn = absurd plain
plain_turn old (command.Ask q) frame answer b plain turn = (b, turn, refl)

-- or memory ran out
pub plain_acts : (old : State) (c : Command) (frame answer : List ℕ) (b : Branches) (new : State) → IsPlain c → left_over old.store old.failures ≡ old.failures → new ≡ onward old b
    → BranchesTurn (branches_of old) c frame answer b ⊎ (TakesMemory c × Only no_memory_answer (branches_of old) answer b) → TurnOrLack old c frame answer new
plain_acts old c frame answer b new plain held is (inl turn) = inl (subst (Turn old c frame answer) (sym is) (plain_turn old c frame answer b plain turn))
plain_acts old c frame answer b new plain held is (inr lack) = inr (lack.0, (lack.1.0, is ∙ onward_same old b held lack.1.1))

-- where the store is as before, so are the failures
pub held_same : (store after : List Block) (fs : List Failure) → left_over store fs ≡ fs → after ≡ store → left_over after fs ≡ fs
held_same store after fs held e = subst (λ s. left_over s fs ≡ fs) (sym e) held

pub onward_by : (b : Branches) (auto : Bool) (fs left : List Failure) (old : State) → left ≡ left_over b.store fs → old.auto ≡ auto → old.failures ≡ fs → state_with old.pool b auto left ≡ onward old b
onward_by b auto fs left old is a f =
    ap (state_with old.pool b auto) (is ∙ ap (left_over b.store) (sym f)) ∙ ap (λ x. state_with old.pool b x (left_over b.store old.failures)) (sym a)
