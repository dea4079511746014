-- What small commands answer, how they change the state, and which of them take memory.
use Rattle.std.specs.Prelude.{◌≡◌, ℕ, List, [], ◌∷◌, codes, ◌++◌, Bool, true, false, Some, None, if◌then◌else◌}
use Rattle.std.specs.Fmt.{digits}
use Rattle.std.specs.List.{list_any}
use Rattle.std.proofs.Common.{refl, arith}
use Rattle.std.proofs.lemmas.Cmp.{nat_list_eq_equiv}
use Rattle.dubp_atoms.specs.Same.{Text}
use Rattle.dubp_atoms.specs.declared.stamp.Stamp.{Stamp}
use Rattle.dubp_lines.specs.Lines.{unlines}
use Rattle.dubp_replay.specs.declared.query.Query.TheVariants as query
use Rattle.dubp_chain.specs.Chains.{Chain}
use Rattle.dubp_verdict.specs.Verdicts.{Verdict, Verdicts, same_verdict, with_verdict}
use Rattle.dubp_replay.specs.declared.command.Command.{Command}
use Rattle.dubp_replay.specs.declared.command.Command.TheVariants.{Verdict as Note, Auto, Block, Failures, Offer, Revert, Switch, Forget, Statement, Ask}
use Rattle.dubp_replay.specs.Turns.{Branches, BranchesTurn, IsServed, State, TakesMemory, Turn, no_branches, start}
use Rattle.dubp_block.specs.declared.block.Block.{Block as Written}
use Rattle.dubp_trials.specs.Samples.{key0, key3, unread, two_blocks, three_blocks, output_to, spending, spending_block}
use Rattle.dubp_trials.proofs.Checks.{condition_of}
use Rattle.dubp_trials.proofs.MoreSamples.{key9}

-- the command is answered by this line and leads there, and in no other way
record Gives (old : Branches) (command : Command) (line : List ℕ) (after : Branches) : Type 0 where
  is : BranchesTurn old command [] (unlines (line ∷ [])) after
  only : (answer : List ℕ) (new : Branches) → BranchesTurn old command [] answer new → (answer ≡ unlines (line ∷ [])) × (new ≡ after)

-- all blocks of the chain can be reversed
abbrev keeping : Chain → ℕ → Branches
keeping c kept = record { verdicts = []; chain = c; kept = kept; store = [] }

-- ---- REVERT

reverts_too_many : Gives (keeping three_blocks 3) (Revert 4) (codes "REFUSED W01 3") (keeping three_blocks 3)
unfolding digits
reverts_too_many = record { is = (refl, refl); only = λ answer new turn. turn }

reverts_one : Gives (keeping three_blocks 3) (Revert 1) (codes "REVERTED 1") (keeping two_blocks 2)
unfolding digits
reverts_one = record { is = (refl, refl); only = λ answer new turn. turn }

reverts_none : Gives no_branches (Revert 0) (codes "REVERTED 0") no_branches
unfolding digits
reverts_none = record { is = (refl, refl); only = λ answer new turn. turn }

-- ---- VERDICT

abbrev a_verdict : Verdict
a_verdict = record { key = key0; hash = unread; sig = unread }

abbrev noted : Branches
noted = record no_branches { verdicts = a_verdict ∷ [] }

notes_once : Gives no_branches (Note key0 unread unread) (codes "NOTED") noted
notes_once = record { is = (refl, refl); only = λ answer new turn. turn }

notes_again : Gives noted (Note key0 unread unread) (codes "NOTED") noted
notes_again = record { is = (refl, refl); only = λ answer new turn. turn }

-- whatever is noted twice leaves the set that it left the first time
same_as_itself : (t : Verdict) → same_verdict t t ≡ true
same_as_itself t = rw (nat_list_eq_equiv.refl t.key, nat_list_eq_equiv.refl t.hash, nat_list_eq_equiv.refl t.sig)

abbrev with_one : Verdict → Verdicts → Bool → Verdicts
with_one t v has = if has then v else t ∷ v

noted_twice : (t : Verdict) (v : Verdicts) → with_verdict t (with_verdict t v) ≡ with_verdict t v
noted_twice t v =
    elim (list_any (same_verdict t) v) as (λ has. list_any (same_verdict t) v ≡ has → with_verdict t (with_one t v has) ≡ with_one t v has) [
      | true ↦ λ has. rw has
      | false ↦ λ has. rw (same_as_itself t)
    ] refl

-- ---- SWITCH and FORGET, where nothing is stored

abbrev a_stamp : Stamp
a_stamp = record { number = 1; hash = unread }

forgets_unknown : Gives no_branches (Forget a_stamp) (codes "UNKNOWN") no_branches
forgets_unknown = record { is = (refl, refl); only = λ answer new turn. turn }

switches_to_unknown : Gives no_branches (Switch a_stamp) (codes "UNKNOWN") no_branches
switches_to_unknown = record {
  is = record { path = []; end = Some a_stamp; is = (refl, refl); goes = (refl, refl) };
  only = λ answer new turn. turn.goes;
}

-- ---- STATEMENT

-- the moves of the condition are told in these lines, and nothing else happens
record Tells (c : Chain) (cond : Text) (lines : List (List ℕ)) : Type 0 where
  is : BranchesTurn (keeping c 0) (Statement (record { items = cond })) [] (unlines lines) (keeping c 0)
  only : (answer : List ℕ) (new : Branches) → BranchesTurn (keeping c 0) (Statement (record { items = cond })) [] answer new → (answer ≡ unlines lines) × (new ≡ keeping c 0)

abbrev dividend_told : List ℕ
dividend_told = codes "MOVE 2 MADE 1000:0:D:" ++ (key0 ++ codes ":2 1000")

tells_a_dividend : Tells three_blocks (condition_of key0) (dividend_told ∷ codes "END" ∷ [])
unfolding digits
tells_a_dividend = record { is = (refl, refl); only = λ answer new turn. turn }

tells_nobody : Tells three_blocks (condition_of key9) (codes "END" ∷ [])
tells_nobody = record { is = (refl, refl); only = λ answer new turn. turn }

-- key0 sends the whole dividend to key3
abbrev sending : Written
sending = record (spending_block 0 0) { transactions = record (spending 0 0) { outputs = output_to key3 1000 ∷ [] } ∷ [] }

tells_a_payment : Tells (sending ∷ three_blocks) (condition_of key0) (dividend_told ∷ (codes "MOVE 3 SPENT 1000:0:D:" ++ (key0 ++ codes ":2 0")) ∷ codes "END" ∷ [])
unfolding digits
tells_a_payment = record { is = (refl, refl); only = λ answer new turn. turn }

-- ---- a line that is no command

what_is_no_command_is_bad : IsServed start None (codes "BAD" ++ 10 ∷ []) start
what_is_no_command_is_bad = (refl, refl)

-- ---- AUTO and FAILED, where nothing is stored

chooses_none : Turn start (Auto true) [] (unlines (codes "AUTO ON" ∷ [])) (record start { auto = true })
chooses_none = record { lines = []; resolves = (refl, refl); text = refl }

chooses_no_more : (answer : List ℕ) (new : State) → Turn (record start { auto = true }) (Auto false) [] answer new → (answer ≡ unlines (codes "AUTO OFF" ∷ [])) × (new ≡ start)
chooses_no_more answer new turn = turn

shows_no_failure : (answer : List ℕ) (new : State) → Turn start Failures [] answer new → (answer ≡ unlines (codes "END" ∷ [])) × (new ≡ start)
shows_no_failure answer new turn = turn

-- ---- memory

stops_in_place : ¬ TakesMemory (Auto false)
stops_in_place takes = absurd cc

chooses_with_room : TakesMemory (Auto true)
chooses_with_room = refl

reverts_in_place : (count : ℕ) → ¬ TakesMemory (Revert count)
reverts_in_place count takes = takes

forgets_in_place : (stamp : Stamp) → ¬ TakesMemory (Forget stamp)
forgets_in_place stamp takes = takes

long_frame_in_place : ¬ TakesMemory (Block 1048577)
long_frame_in_place takes = absurd (omega (arith, takes))

long_offer_in_place : ¬ TakesMemory (Offer 1048577)
long_offer_in_place takes = absurd (omega (arith, takes))

head_in_place : ¬ TakesMemory (Ask query.Head)
head_in_place takes = takes

money_in_place : ¬ TakesMemory (Ask query.Money)
money_in_place takes = takes

identity_in_place : (key : Text) → ¬ TakesMemory (Ask (query.Identity key))
identity_in_place key takes = takes

name_in_place : (uid : Text) → ¬ TakesMemory (Ask (query.Uid uid))
name_in_place uid takes = takes

balance_in_place : (cond : Text) → ¬ TakesMemory (Ask (query.Balance (record { items = cond })))
balance_in_place cond takes = takes

difficulty_in_place : (key : Text) → ¬ TakesMemory (Ask (query.Diff key))
difficulty_in_place key takes = takes

certs_need_room : (key : Text) → TakesMemory (Ask (query.Certs key))
certs_need_room key = tt

statements_need_room : (cond : Text) → TakesMemory (Statement (record { items = cond }))
statements_need_room cond = tt
