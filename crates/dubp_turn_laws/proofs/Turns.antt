-- A turn of a command has one answer, and leads to one state.
use Rattle.std.proofs.Common.{◌≡◌, ◌+◌, ◌-◌, ◌++◌, ◌&&◌, ℕ, Bool, true, false, List, [], ◌∷◌, Option, Some, None, drop, length, is_some, nat_le, nat_lt, sym, ap, subst, ◌∙◌, ◌⊎◌, inl, inr, MatchBool}
use Rattle.std.specs.List.{flat_map}
use Rattle.std.specs.Option.{MatchOption}
use Rattle.dubp_atoms.specs.Same.{Text}
use Rattle.dubp_atoms.specs.declared.stamp.Stamp.{Stamp}
use Rattle.dubp_block.specs.declared.block.Block.{Block}
use Rattle.dubp_block.specs.Text.{stamp_of}
use Rattle.dubp_rules.specs.declared.rule.Rule.{Rule}
use Rattle.dubp_rules.specs.declared.rule.Rule.TheVariants.{P01, X01}
use Rattle.dubp_rules.specs.First.{IsFirst}
use Rattle.dubp_rules.specs.Table.{code_text, table_rules}
use Rattle.dubp_rules.proofs.FirstLaws.{FirstOf_determined, FirstOf_from_IsFirst}
use Rattle.dubp_verdict.specs.Verdicts.{Verdicts}
use Rattle.dubp_chain.specs.Chains.{Chain}
use Rattle.dubp_validity.specs.Rules.{HoldsRaw, longest_block}
use Rattle.dubp_forging_laws.proofs.Forging.{one_forging}
use Rattle.dubp_forging_laws.proofs.Texts.{one_block, one_document}
use Rattle.dubp_forging_laws.proofs.Tried.{one_trial}
use Rattle.dubp_resolve.proofs.Resolving.{determined}
use Rattle.dubp_replay.specs.Answers.{accepted_answer, auto_on_answer, branch_refused_answer, detached_answer, forged_answer, forgotten_answer, full_answer, known_answer, known_document_answer, no_document_answer, pending_answer, refused_answer, reverted_answer, stored_answer, too_deep_answer, unknown_answer, unread_answer}
use Rattle.dubp_replay.specs.declared.command.Command.{Command}
use Rattle.dubp_replay.specs.declared.command.Command.TheVariants as command
use Rattle.dubp_replay.specs.declared.failure.Failure.{Failure}
use Rattle.dubp_replay.specs.OfForging.{Doc, Forging, IsRead, doc_hash, is_pending, most_pending, without as without_document}
use Rattle.dubp_replay.specs.Turns.{Accepts, AutoTurn, BlockTurn, Branches, BranchesTurn, Chooses, Detaches, Fails, GoesAlong, IsForgeAnswer, IsForgedAnswer, OfferGoesOn, OfferTurn, Only, PendTurn, PendsDoc, RefusedBy, State, Stores, Succeeds, SwitchTurn, SwitchesBy, TriesPath, UnpendTurn, accepted, blocks_behind, branches_of, choice_line, choices_of, forging_of, is_known, most_stored, offer_rules, onward, stored, without}
use Rattle.dubp_turn_laws.specs.Laws.{TurnsHaveOneAnswer}
use Rattle.dubp_turn_laws.proofs.Once.{down, not_accepted, one_break, one_path, switches_once}
use Rattle.dubp_turn_laws.proofs.Queries.{one_reply}
use Rattle.dubp_turn_laws.proofs.Texts.{one_line}

abbrev Same : {X : Type 0} → List ℕ → List ℕ → X → X → Type 0
Same a a' x x' = (a ≡ a') × (x ≡ x')

-- where answer and state are given
said : {X : Type 0} (text : List ℕ) (to : X) (a a' : List ℕ) (x x' : X) → (a ≡ text) × (x ≡ to) → (a' ≡ text) × (x' ≡ to) → Same a a' x x'
said text to a a' x x' p q = (p.0 ∙ sym q.0, p.1 ∙ sym q.1)

-- by a test, and by whether there is a value
two_by_test : {R : Type 0} (t : Bool) (P Q P' Q' : Type 0) → (P → P' → R) → (Q → Q' → R) → MatchBool t P Q → MatchBool t P' Q' → R
two_by_test true P Q P' Q' f g p q = f p q
two_by_test false P Q P' Q' f g p q = g p q

two_by_value : {R X : Type 0} (o : Option X) (P P' : Type 0) (Q Q' : X → Type 0) → (P → P' → R) → ((x : X) → Q x → Q' x → R)
    → MatchOption o P Q → MatchOption o P' Q' → R
two_by_value None P P' Q Q' f g p q = f p q
two_by_value (Some x) P P' Q Q' f g p q = g x p q

-- ---- BLOCK and OFFER

one_rule : (v : Verdicts) (c : Chain) (bytes : List ℕ) (rules : List Rule) (o o' : Option Rule)
    → IsFirst (HoldsRaw v c bytes) rules o → IsFirst (HoldsRaw v c bytes) rules o' → o ≡ o'
one_rule v c bytes rules o o' f g =
    let Holding = HoldsRaw v c bytes in
    FirstOf_determined Holding rules o o' (FirstOf_from_IsFirst Holding rules o f) (FirstOf_from_IsFirst Holding rules o' g)

module _ (bytes : List ℕ) (old : Branches) (a a' : List ℕ) (new new' : Branches) where
  one_refusal : (rule : Rule) → RefusedBy bytes rule old a new → RefusedBy bytes rule old a' new' → Same a a' new new'
  one_refusal P01 p q =
      (p.2.0 ∙ ap unread_answer (one_line bytes p.0 q.0 p.1 q.1) ∙ sym q.2.0, p.2.1 ∙ sym q.2.1)
  one_refusal rule p q = (p.0 ∙ sym q.0, p.1 ∙ sym q.1)

  one_accepted : Accepts bytes old a new → Accepts bytes old a' new' → Same a a' new new'
  one_accepted p q =
      let same = one_block bytes p.0 q.0 p.1 q.1 in
      (p.2 ∙ ap (λ (b : Block). accepted_answer (stamp_of b)) same ∙ sym q.2, p.3 ∙ ap (accepted old) same ∙ sym q.3)

  one_block_turn : BlockTurn old bytes a new → BlockTurn old bytes a' new' → Same a a' new new'
  one_block_turn p q =
      let same = one_rule old.verdicts old.chain bytes table_rules p.broken q.broken p.first q.first in
      two_by_value p.broken (Accepts bytes old a new) (Accepts bytes old a' new') (λ rule. RefusedBy bytes rule old a new) (λ rule. RefusedBy bytes rule old a' new')
      one_accepted one_refusal p.decides
      (subst (λ o. MatchOption o (Accepts bytes old a' new') (λ rule. RefusedBy bytes rule old a' new')) (sym same) q.decides)

  abbrev StoresBlock : List ℕ → Branches → Block → Type 0
  StoresBlock answer to b =
      MatchBool (is_known old (stamp_of b))
      (Only (known_answer (stamp_of b)) old answer to)
      (MatchBool (nat_le most_stored (length old.store))
      (Only full_answer old answer to)
      ((answer ≡ stored_answer (stamp_of b)) × (to ≡ record old { store = old.store ++ b ∷ [] })))

  one_stored : Stores bytes old a new → Stores bytes old a' new' → Same a a' new new'
  one_stored p q =
      let b = p.0 in
      let rest : StoresBlock a' new' b = subst (StoresBlock a' new') (one_block bytes q.0 p.0 q.1 p.1) q.2 in
      two_by_test (is_known old (stamp_of b)) _ _ _ _ (said (known_answer (stamp_of b)) old a a' new new')
      (two_by_test (nat_le most_stored (length old.store)) _ _ _ _ (said full_answer old a a' new new')
      (said (stored_answer (stamp_of b)) (record old { store = old.store ++ b ∷ [] }) a a' new new')) p.2 rest

  one_offer_turn : OfferTurn old bytes a new → OfferTurn old bytes a' new' → Same a a' new new'
  one_offer_turn p q =
      let same = one_rule old.verdicts old.chain bytes offer_rules p.broken q.broken p.first q.first in
      two_by_value p.broken (Stores bytes old a new) (Stores bytes old a' new') (λ rule. RefusedBy bytes rule old a new) (λ rule. RefusedBy bytes rule old a' new')
      one_stored one_refusal p.decides
      (subst (λ o. MatchOption o (Stores bytes old a' new') (λ rule. RefusedBy bytes rule old a' new')) (sym same) q.decides)

-- ---- SWITCH

module _ (old : Branches) (stamp : Stamp) (a a' : List ℕ) (new new' : Branches) where
  one_try : (path : List Block) (count : ℕ) → TriesPath old stamp path count a new → TriesPath old stamp path count a' new' → Same a a' new new'
  one_try path count (inl p) (inl q) = (p.1 ∙ sym q.1, p.2 ∙ sym q.2)
  one_try path count (inl p) (inr q) =
      absurd (not_accepted old.verdicts (drop count old.chain) path q.0 q.1 (down old.verdicts (drop count old.chain) path q.0 q.1 q.2) p.0)
  one_try path count (inr p) (inl q) =
      absurd (not_accepted old.verdicts (drop count old.chain) path p.0 p.1 (down old.verdicts (drop count old.chain) path p.0 p.1 p.2) q.0)
  one_try path count (inr p) (inr q) =
      let c = drop count old.chain in
      let same = one_break old.verdicts c path p.0 q.0 p.1 q.1 (down old.verdicts c path p.0 p.1 p.2) (down old.verdicts c path q.0 q.1 q.2) in
      let b = same.0 in
      let rule = same.1 in
      (p.3.0 ∙ (λ i. branch_refused_answer (stamp_of (b i)) (code_text (rule i))) ∙ sym q.3.0, p.3.1 ∙ sym q.3.1)

  one_way_by : (path : List Block) (count : ℕ) → SwitchesBy old stamp path count a new → SwitchesBy old stamp path count a' new' → Same a a' new new'
  one_way_by path count =
      two_by_test (nat_lt old.kept count) _ _ _ _ (said (too_deep_answer old.kept) old a a' new new')
      (two_by_test (nat_lt most_stored ((length old.store - length path) + count)) _ _ _ _ (said full_answer old a a' new new') (one_try path count))

  detached : (end : Option Stamp) → Detaches old end a new → Detaches old end a' new' → Same a a' new new'
  detached None p q = absurd p
  detached (Some s) p q = said (detached_answer s) old a a' new new' p q

  one_along : (path : List Block) (end : Option Stamp) → GoesAlong old stamp path end a new → GoesAlong old stamp path end a' new' → Same a a' new new'
  one_along path end = two_by_value (blocks_behind old.chain end) _ _ _ _ (detached end) (one_way_by path)

  one_switch_turn : SwitchTurn old stamp a new → SwitchTurn old stamp a' new' → Same a a' new new'
  one_switch_turn p q =
      let same = one_path old.store stamp q.path p.path q.end p.end q.is p.is in
      let path = same.0 in
      let end = same.1 in
      let rest : MatchBool (is_some (stored old.store stamp)) (GoesAlong old stamp p.path p.end a' new') (Only unknown_answer old a' new') =
      subst (λ e. MatchBool (is_some (stored old.store stamp)) (GoesAlong old stamp p.path e a' new') (Only unknown_answer old a' new')) end
      (subst (λ l. MatchBool (is_some (stored old.store stamp)) (GoesAlong old stamp l q.end a' new') (Only unknown_answer old a' new')) path q.goes) in
      two_by_test (is_some (stored old.store stamp)) _ _ _ _ (one_along p.path p.end) (said unknown_answer old a a' new new') p.goes rest

-- ---- each command

one_of_branches : (old : Branches) (c : Command) (frame a a' : List ℕ) (new new' : Branches)
    → BranchesTurn old c frame a new → BranchesTurn old c frame a' new' → Same a a' new new'
one_of_branches old (command.Verdict key hash sig) frame a a' new new' p q = (p.0 ∙ sym q.0, p.1 ∙ sym q.1)
one_of_branches old (command.Block len) frame a a' new new' p q = one_block_turn frame old a a' new new' p q
one_of_branches old (command.Revert count) frame a a' new new' p q =
    two_by_test (nat_le count old.kept) _ _ _ _
    (said (reverted_answer count) (record old { chain = drop count old.chain; kept = old.kept - count }) a a' new new')
    (said (too_deep_answer old.kept) old a a' new new') p q
one_of_branches old (command.Offer len) frame a a' new new' p q = one_offer_turn frame old a a' new new' p q
one_of_branches old (command.Switch stamp) frame a a' new new' p q = one_switch_turn old stamp a a' new new' p q
one_of_branches old (command.Forget stamp) frame a a' new new' p q =
    two_by_test (is_some (stored old.store stamp)) _ _ _ _
    (said forgotten_answer (record old { store = without stamp old.store }) a a' new new') (said unknown_answer old a a' new new') p q
one_of_branches old (command.Statement cond) frame a a' new new' p q = (p.0 ∙ sym q.0, p.1 ∙ sym q.1)
one_of_branches old (command.Auto on) frame a a' new new' p q = absurd p
one_of_branches old command.Failures frame a a' new new' p q = absurd p
one_of_branches old (command.Pend len) frame a a' new new' p q = absurd p
one_of_branches old (command.Unpend hash) frame a a' new new' p q = absurd p
one_of_branches old (command.Forge key time) frame a a' new new' p q = absurd p
one_of_branches old (command.Ask ask) frame a a' new new' p q = (one_reply old.chain ask a a' p.0 q.0, p.1 ∙ sym q.1)

-- ---- and where the node chooses

one_choice : (first : List ℕ) (old : State) (a a' : List ℕ) (new new' : State) → Chooses first old a new → Chooses first old a' new' → Same a a' new new'
one_choice first old a a' new new' p q =
    let same = determined (λ (f : Failure). f.tip) (λ f. f.at) choices_of Succeeds Fails switches_once old p.lines q.lines new new' p.resolves q.resolves in
    (p.text ∙ ap (λ lines. first ++ flat_map choice_line lines) same.0 ∙ sym q.text, same.1)

abbrev GoesOn : State → List ℕ → State → List ℕ → Branches → Type 0
GoesOn old a new first b =
    MatchBool (old.auto && nat_lt (length old.store) (length b.store)) (Chooses first (onward old b) a new) (Only first (onward old b) a new)

one_offer : (old : State) (bytes a a' : List ℕ) (new new' : State) → OfferGoesOn old bytes a new → OfferGoesOn old bytes a' new' → Same a a' new new'
one_offer old bytes a a' new new' p q =
    let same = one_offer_turn bytes (branches_of old) q.first p.first q.branches p.branches q.offers p.offers in
    let rest : GoesOn old a' new' p.first p.branches =
    subst (GoesOn old a' new' p.first) same.1 (subst (λ f. GoesOn old a' new' f q.branches) same.0 q.goes_on) in
    two_by_test (old.auto && nat_lt (length old.store) (length p.branches.store)) _ _ _ _
    (one_choice p.first (onward old p.branches) a a' new new') (said p.first (onward old p.branches) a a' new new') p.goes_on rest

one_auto : (old : State) (on : Bool) (a a' : List ℕ) (new new' : State) → AutoTurn old on a new → AutoTurn old on a' new' → Same a a' new new'
one_auto old true a a' new new' p q = one_choice auto_on_answer (record old { auto = true }) a a' new new' p q
one_auto old false a a' new new' p q = (p.0 ∙ sym q.0, p.1 ∙ sym q.1)

-- ---- documents that wait

one_pending : (old : State) (d : Doc) (a a' : List ℕ) (new new' : State) → PendsDoc old d a new → PendsDoc old d a' new' → Same a a' new new'
one_pending old d a a' new new' =
    two_by_test (is_pending old.pool (doc_hash d)) _ _ _ _ (said (known_document_answer (doc_hash d)) old a a' new new')
    (two_by_test (nat_le most_pending (length old.pool)) _ _ _ _ (said full_answer old a a' new new')
    (said (pending_answer (doc_hash d)) (record old { pool = old.pool ++ d ∷ [] }) a a' new new'))

-- bytes are the text of one document, or of none
abbrev IsPended : State → List ℕ → List ℕ → State → Type 0
IsPended old bytes a new =
    ((d : Doc) × IsRead bytes d × PendsDoc old d a new)
    ⊎ (((d : Doc) → IsRead bytes d → ⊥) × Only no_document_answer old a new)

one_pended : (old : State) (bytes a a' : List ℕ) (new new' : State) → IsPended old bytes a new → IsPended old bytes a' new' → Same a a' new new'
one_pended old bytes a a' new new' (inl p) (inl q) =
    one_pending old p.0 a a' new new' p.2 (subst (λ (d : Doc). PendsDoc old d a' new') (one_document bytes q.0 p.0 q.1 p.1) q.2)
one_pended old bytes a a' new new' (inl p) (inr q) = absurd (q.0 p.0 p.1)
one_pended old bytes a a' new new' (inr p) (inl q) = absurd (p.0 q.0 q.1)
one_pended old bytes a a' new new' (inr p) (inr q) = said no_document_answer old a a' new new' p.1 q.1

one_pend : (old : State) (bytes a a' : List ℕ) (new new' : State) → PendTurn old bytes a new → PendTurn old bytes a' new' → Same a a' new new'
one_pend old bytes a a' new new' =
    two_by_test (nat_le (length bytes) longest_block) _ _ _ _ (one_pended old bytes a a' new new') (said (refused_answer (code_text X01)) old a a' new new')

one_unpend : (old : State) (hash : Text) (a a' : List ℕ) (new new' : State) → UnpendTurn old hash a new → UnpendTurn old hash a' new' → Same a a' new new'
one_unpend old hash a a' new new' =
    two_by_test (is_pending old.pool hash) _ _ _ _ (said forgotten_answer (record old { pool = without_document hash old.pool }) a a' new new')
    (said unknown_answer old a a' new new')

-- a block is forged, or the draft without documents breaks a rule, and not both
one_forged : (f : Forging) (a a' : List ℕ) → IsForgedAnswer f a → IsForgedAnswer f a' → a ≡ a'
one_forged f a a' (inl p) (inl q) =
    let same = one_forging f p.0 q.0 p.1 q.1 p.2 q.2 in
    let block = same.0 in
    let left = same.1 in
    p.3 ∙ (λ i. forged_answer (block i) (left i)) ∙ sym q.3
one_forged f a a' (inl p) (inr q) = let e : None ≡ Some q.0 = one_trial f [] None (Some q.0) p.2.begins q.1 in absurd cc
one_forged f a a' (inr p) (inl q) = let e : None ≡ Some p.0 = one_trial f [] None (Some p.0) q.2.begins p.1 in absurd cc
one_forged f a a' (inr p) (inr q) =
    let e : Some p.0 ≡ Some q.0 = one_trial f [] (Some p.0) (Some q.0) p.1 q.1 in
    let rule : p.0 ≡ q.0 = cc in
    p.2 ∙ ap (λ r. refused_answer (code_text r)) rule ∙ sym q.2

one_forge_answer : (f : Forging) (c : Chain) (a a' : List ℕ) → IsForgeAnswer f c a → IsForgeAnswer f c a' → a ≡ a'
one_forge_answer f [] a a' p q = p ∙ sym q
one_forge_answer f (b ∷ c) a a' p q = one_forged f a a' p q

pub one_turn : TurnsHaveOneAnswer
one_turn old (command.Offer len) frame a a' new new' p q = one_offer old frame a a' new new' p q
one_turn old (command.Auto on) frame a a' new new' p q = one_auto old on a a' new new' p q
one_turn old command.Failures frame a a' new new' p q = (p.0 ∙ sym q.0, p.1 ∙ sym q.1)
one_turn old (command.Pend len) frame a a' new new' p q = one_pend old frame a a' new new' p q
one_turn old (command.Unpend hash) frame a a' new new' p q = one_unpend old hash a a' new new' p q
one_turn old (command.Forge key time) frame a a' new new' p q = (one_forge_answer (forging_of old key time) old.chain a a' p.0 q.0, p.1 ∙ sym q.1)
one_turn old c frame a a' new new' p q =
    let same = one_of_branches (branches_of old) c frame a a' p.0 q.0 p.1 q.1 in
    (same.0, p.2 ∙ ap (onward old) same.1 ∙ sym q.2)
