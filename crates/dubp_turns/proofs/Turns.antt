-- Turns of the branches, as turns of the node.
use Rattle.std.proofs.Common.{◌≡◌, ◌∙◌, inl, inr, ◌<◌, ℕ, Bool, true, false, List, [], ◌∷◌, ◌++◌, length, Ok, Err, refl, sym, ap, subst, arith, length-append, ◌||◌, true≢false, codes}
use Rattle.std.specs.List.{list_any}
use Rattle.std.proofs.lemmas.List.Folds.{list_any-append}
use Rattle.dubp_atoms.specs.declared.stamp.Stamp.{Stamp}
use Rattle.dubp_block.specs.declared.block.Block.{Block}
use Rattle.dubp_turns.specs.BranchActs.{BranchesActs}
use Rattle.dubp_turns.specs.Deciding.{offer_text}
use Rattle.dubp_turns.proofs.LongAnswers.{long_offer_turn}
use Rattle.dubp_turns.proofs.Stored.{offered_acts, offered_none, stored_offer, with_store}
use Rattle.dubp_turns.specs.OfForks.{OfferRefusal, Offered}
use Rattle.dubp_replay.specs.Answers.{refused_answer, stored_answer}
use Rattle.dubp_replay.specs.declared.command.Command.{Command}
use Rattle.dubp_replay.specs.declared.command.Command.TheVariants as command
use Rattle.dubp_validity.specs.Rules.{longest_block}
use Rattle.dubp_replay.specs.declared.failure.Failure.{Failure}
use Rattle.dubp_replay.specs.Turns.{Branches, Chooses, OfferTurn, State, branches_of, is_stamped, left_over, onward, without}
use Rattle.dubp_choosing.specs.States.{state_with}
use Rattle.dubp_choosing.proofs.Failures.{left_more, left_twice, onward_same}
use Rattle.dubp_choosing.proofs.Offering.{goes_aside, goes_choosing, goes_quietly, without_last}
use Rattle.dubp_choosing.proofs.Turns.{IsPlain, held_same, plain_acts}
use Rattle.dubp_choosing.proofs.Waiting.{chooses_waiting}
use Rattle.dubp_turns.specs.Acting.{Acts, OfferActs}
use Rattle.dubp_turns.specs.Choosing.{ChoosesBehind}

-- where failures are let go of
pub acts_on : (old : State) (c : Command) (frame answer : List ℕ) (b : Branches) (left : List Failure) → IsPlain c → left_over old.store old.failures ≡ old.failures → left ≡ left_over b.store old.failures
    → BranchesActs (branches_of old) c frame answer b → Acts old c frame answer (state_with old.pool b old.auto left)
acts_on old c frame answer b left plain held is acts = λ bytes handed.
    plain_acts old c bytes answer b (state_with old.pool b old.auto left) plain held (ap (state_with old.pool b old.auto) is) (acts bytes handed)

-- where the store is as before
pub acts_aside : (old : State) (c : Command) (frame answer : List ℕ) (b : Branches) → IsPlain c → left_over old.store old.failures ≡ old.failures → b.store ≡ old.store
    → BranchesActs (branches_of old) c frame answer b → Acts old c frame answer (state_with old.pool b old.auto old.failures)
acts_aside old c frame answer b plain held same acts =
    acts_on old c frame answer b old.failures plain held (sym (held_same old.store b.store old.failures held same)) acts

-- ---- OFFER
or_left : (a b : Bool) → (a || b) ≡ false → a ≡ false
or_left true b e = absurd (true≢false e)
or_left false b e = refl

none_of : (test : Block → Bool) (store chain : List Block) → list_any test (store ++ chain) ≡ false → list_any test store ≡ false
none_of test store chain e = or_left (list_any test store) (list_any test chain) (sym (list_any-append test store chain) ∙ e)

module _ (old : State) (held : left_over old.store old.failures ≡ old.failures) (frame : List ℕ) where
  -- nothing was stored
  pub offer_refused : (answer : List ℕ) (refusal : OfferRefusal) (b : Branches) → Offered (branches_of old) frame (Err refusal) b.store → b ≡ with_store (branches_of old) b.store
      → answer ≡ offer_text (Err refusal) → OfferActs old frame answer (state_with old.pool b old.auto old.failures)
  offer_refused answer refusal b offered is e =
      let same : b.store ≡ old.store = offered_none (branches_of old) frame refusal b.store offered in
      let kept : old.failures ≡ left_over b.store old.failures = sym (held_same old.store b.store old.failures held same) in
      let all : b ≡ branches_of old = is ∙ ap (with_store (branches_of old)) same in
      elim (offered_acts (branches_of old) frame answer (Err refusal) b.store offered e) as (λ _. OfferActs old frame answer (state_with old.pool b old.auto old.failures)) [
        | inl turn ↦ inl (goes_aside old (state_with old.pool b old.auto old.failures) frame answer b (subst (OfferTurn (branches_of old) frame answer) (sym is) turn) same (ap (state_with old.pool b old.auto) kept))
        | inr lack ↦ inr (lack.0, ap (λ (x : Branches). state_with old.pool x old.auto old.failures) all)
      ]

  module _ (stamp : Stamp) (b : Branches) (offered : Offered (branches_of old) frame (Ok stamp) b.store) (is : b ≡ with_store (branches_of old) b.store) where
    -- one more is stored
    pub grows : b.store ≡ old.store ++ offered.0 ∷ []
    grows = offered.5

    pub kept_behind : left_over b.store old.failures ≡ old.failures
    kept_behind = subst (λ s. left_over s old.failures ≡ old.failures) (sym grows) (left_more old.store (offered.0 ∷ []) old.failures held)

    turn : (answer : List ℕ) → answer ≡ stored_answer stamp → OfferTurn (branches_of old) frame answer b
    turn answer e = subst (OfferTurn (branches_of old) frame answer) (sym is) (stored_offer (branches_of old) frame answer stamp b.store offered e)

    more : length old.store < length b.store
    more = let l = length-append old.store (offered.0 ∷ []) in let n : length b.store ≡ length (old.store ++ offered.0 ∷ []) = ap length grows in omega arith

    onward_is : state_with old.pool b old.auto old.failures ≡ onward old b
    onward_is = ap (state_with old.pool b old.auto) (sym kept_behind)

    pub offer_quietly : (answer : List ℕ) → answer ≡ offer_text (Ok stamp) → old.auto ≡ false → OfferActs old frame answer (state_with old.pool b old.auto old.failures)
    offer_quietly answer e off = inl (goes_quietly old (state_with old.pool b old.auto old.failures) frame answer b (turn answer e) off onward_is)

    -- what was stored is taken out again
    pub taken_out : without stamp b.store ≡ old.store
    taken_out =
        ap (without stamp) grows
        ∙ without_last stamp old.store offered.0 offered.2 (none_of (is_stamped stamp) old.store old.chain offered.3)

    pub offer_chooses : (answer : List ℕ) (after : Branches) (left : List Failure) → ChoosesBehind stamp b old.failures answer after left → old.auto ≡ true → OfferActs old frame answer (state_with old.pool after old.auto left)
    offer_chooses answer after left (inl chosen) on =
        inl (goes_choosing old (state_with old.pool after old.auto left) frame (stored_answer stamp) answer b (turn (stored_answer stamp) refl) on more
        (subst (λ (x : State). Chooses (stored_answer stamp) x answer (state_with old.pool after old.auto left)) onward_is
        (subst (λ a. Chooses (stored_answer stamp) (state_with old.pool b a old.failures) answer (state_with old.pool after a left)) (sym on)
        (chooses_waiting old.pool (stored_answer stamp) answer b after old.failures left chosen.0))))
    offer_chooses answer after left (inr lack) on =
        let back : after ≡ branches_of old = lack.1 ∙ ap (λ s. with_store b s) taken_out ∙ ap (λ (x : Branches). with_store x old.store) is in
        inr (lack.0, λ i. state_with old.pool (back i) old.auto (lack.2 i))

    pub held_behind : (answer : List ℕ) (after : Branches) (left : List Failure) → ChoosesBehind stamp b old.failures answer after left → left_over after.store left ≡ left
    held_behind answer after left (inl chosen) = chosen.1
    held_behind answer after left (inr lack) =
        let store : after.store ≡ old.store = ap (λ (x : Branches). x.store) lack.1 ∙ taken_out in
        subst (λ s. left_over s left ≡ left) (sym store) (subst (λ (l : List Failure). left_over old.store l ≡ l) (sym lack.2) held)

pub held_left : (store : List Block) (fs left : List Failure) → left ≡ left_over store fs → left_over store left ≡ left
held_left store fs left is = subst (λ (l : List Failure). left_over store l ≡ l) (sym is) (left_twice store fs)

-- a frame that is too long
pub long_offer_acts : (old : State) → left_over old.store old.failures ≡ old.failures → (len : ℕ) (frame answer : List ℕ) → longest_block < len → answer ≡ refused_answer (codes "X01") → Acts old (command.Offer len) frame answer old
long_offer_acts old held len frame answer long is = λ bytes handed.
    inl (goes_aside old old bytes answer (branches_of old) (long_offer_turn (branches_of old) bytes answer (omega (arith, handed.0, long)) is) refl (sym (onward_same old (branches_of old) held refl)))
