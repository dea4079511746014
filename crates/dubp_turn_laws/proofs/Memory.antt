-- No turn has the answer that says that memory ran out.
use Rattle.std.proofs.Common.{◌≡◌, ◌++◌, ◌&&◌, ◌-◌, ◌+◌, ◌*◌, ◌^◌, ℕ, Bool, true, false, List, [], ◌∷◌, Option, Some, None, map, codes, length, is_some, if◌then◌else◌, nat_le, nat_lt, refl, sym, subst, append_assoc, append-nil, ◌⊎◌, inl, inr, MatchBool}
use Rattle.std.specs.Option.{MatchOption, option_map_or}
use Rattle.dubp_atoms.specs.Same.{Text}
use Rattle.dubp_atoms.specs.declared.stamp.Stamp.{Stamp}
use Rattle.dubp_block.specs.declared.block.Block.{Block}
use Rattle.dubp_block.specs.declared.block.IdentityLine.{IdentityLine}
use Rattle.dubp_block.specs.Text.{block_text, stamp_of}
use Rattle.dubp_rules.specs.declared.rule.Rule.{Rule}
use Rattle.dubp_rules.specs.declared.rule.Rule.TheVariants.{P01, X01}
use Rattle.dubp_rules.specs.Table.{code_text}
use Rattle.dubp_chain.specs.Chains.{Chain, params}
use Rattle.dubp_chain.specs.Distance.{sentry_count}
use Rattle.dubp_chain.specs.Heads.{difficulty, head_of}
use Rattle.dubp_chain.specs.Members.{member}
use Rattle.dubp_chain.specs.People.{Written, identity}
use Rattle.dubp_chain.specs.declared.head.Head.{Head}
use Rattle.dubp_validity.specs.Rules.{longest_block}
use Rattle.dubp_validity.specs.declared.record.Record.{Record}
use Rattle.dubp_validity.specs.declared.record.Record.TheVariants.{Create}
use Rattle.dubp_validity.specs.Records.{record_text, records_at}
use Rattle.dubp_replay.specs.Answers as answers
use Rattle.dubp_replay.specs.declared.command.Command.{Command}
use Rattle.dubp_replay.specs.declared.command.Command.TheVariants as command
use Rattle.dubp_replay.specs.declared.query.Query.{Query}
use Rattle.dubp_replay.specs.declared.query.Query.TheVariants as query
use Rattle.dubp_replay.specs.OfForging.{Doc, Forging, IsRead, doc_hash, is_pending, most_pending}
use Rattle.dubp_replay.specs.Turns.{AutoTurn, Branches, BranchesTurn, Chooses, Detaches, GoesAlong, IsForgeAnswer, IsForgedAnswer, OfferGoesOn, OfferTurn, Only, PendTurn, PendsDoc, RefusedBy, State, Stores, SwitchesBy, TriesPath, UnpendTurn, blocks_behind, branches_of, forging_of, is_known, most_stored, onward, stored}
use Rattle.dubp_turn_laws.specs.Laws.{TurnsHaveOtherAnswers, is_no_memory}
use Rattle.dubp_turn_laws.proofs.Queries.{near_or_far}

-- the text is another, and another whatever stands behind it
abbrev pub IsOther : List ℕ → Type 0
IsOther answer = is_no_memory answer ≡ false

abbrev BeginsOther : List ℕ → Type 0
BeginsOther answer = (rest : List ℕ) → IsOther (answer ++ rest)

other_is : (answer text : List ℕ) → answer ≡ text → IsOther text → IsOther answer
other_is answer text e other = subst IsOther (sym e) other

begins_is : (answer text : List ℕ) → answer ≡ text → BeginsOther text → BeginsOther answer
begins_is answer text e other = subst BeginsOther (sym e) other

alone : (answer : List ℕ) → BeginsOther answer → IsOther answer
alone answer other = subst IsOther (append-nil answer) (other [])

-- ---- of queries

-- lines that begin otherwise, or END alone
other_ended : {X : Type 0} (line : X → List ℕ) (xs : List X) → ((x : X) → BeginsOther (line x)) → IsOther (answers.ended (map line xs))
other_ended line [] begin = refl
other_ended line (x ∷ xs) begin = subst IsOther (sym (append_assoc (line x) _ _)) (begin x _)

other_head : (o : Option Head) → IsOther (answers.head_answer o)
other_head None = refl
other_head (Some h) = refl

other_identity : (c : Chain) (o : Option (Written IdentityLine)) → IsOther (answers.identity_answer_of c o)
other_identity c None = refl
other_identity c (Some w) = refl

other_uid : (c : Chain) (o : Option IdentityLine) → IsOther (answers.uid_answer_of c o)
other_uid c None = refl
other_uid c (Some line) = other_identity c (identity c line.key)

other_certs : (c : Chain) (pairs : List (Text × Text)) (o : Option (Written IdentityLine))
    → IsOther (option_map_or (λ _. answers.ended (map (answers.certification_line c) pairs)) o answers.none_answer)
other_certs c pairs None = refl
other_certs c pairs (Some w) = other_ended (answers.certification_line c) pairs (λ p rest. refl)

other_distance : (c : Chain) (k : Text) (answer : List ℕ) → answers.IsDistance c k answer → IsOther answer
other_distance c k answer d =
    let count = sentry_count c k in
    near_or_far ((params c).xpercent.mantissa * count) (d.reached * 10 ^ (params c).xpercent.places)
    (λ h. other_is answer (answers.distance_line d.reached count (codes "PASS")) (d.near h) refl)
    (λ h. other_is answer (answers.distance_line d.reached count (codes "FAIL")) (d.far h) refl)

other_difficulty : (is_member : Bool) (o : Option ℕ) → IsOther (if is_member then answers.diff_answer_of o else answers.none_answer)
other_difficulty false o = refl
other_difficulty true None = refl
other_difficulty true (Some d) = refl

record_begins : (r : Record) → BeginsOther (answers.answer_line (record_text r))
record_begins (Create key uid stamp) rest = refl
record_begins r rest = refl

other_records : (o : Option (List Record)) → IsOther (answers.records_answer_of o)
other_records None = refl
other_records (Some rows) = other_ended (λ r. answers.answer_line (record_text r)) rows record_begins

other_block : (o : Option Block) → IsOther (answers.show_answer_of o)
unfolding block_text
other_block None = refl
other_block (Some b) = refl

other_reply : (c : Chain) (q : Query) (answer : List ℕ) → answers.IsAnswered c q answer → IsOther answer
other_reply c query.Head answer e = other_is answer (answers.head_answer (head_of c)) e (other_head (head_of c))
other_reply c query.Money answer e = other_is answer (answers.money_answer c) e refl
other_reply c (query.Identity key) answer e = other_is answer (answers.identity_answer c key) e (other_identity c (identity c key))
other_reply c (query.Uid uid) answer e = other_is answer (answers.uid_answer c uid) e (other_uid c _)
other_reply c (query.Certs key) answer e =
    other_is answer (answers.certs_answer c key) e (other_certs c (answers.pairs_to c key ++ answers.pairs_from c key) (identity c key))
other_reply c (query.Balance cond) answer e = other_is answer (answers.balance_answer c cond.items) e refl
other_reply c (query.Sources cond) answer e = other_is answer (answers.sources_answer c cond.items) e (other_ended answers.source_line _ (λ s rest. refl))
other_reply c (query.Distance key) answer e =
    elim (identity c key) as (λ o. MatchOption o (answer ≡ answers.none_answer) (λ _. answers.IsDistance c key answer) → IsOther answer) [
      | None ↦ λ e. other_is answer answers.none_answer e refl
      | Some w ↦ λ d. other_distance c key answer d
    ] e
other_reply c (query.Diff key) answer e = other_is answer (answers.diff_answer c key) e (other_difficulty (member c key) (difficulty c key))
other_reply c (query.Records number) answer e = other_is answer (answers.records_answer c number) e (other_records (records_at c number))
other_reply c (query.Show number) answer e = other_is answer (answers.show_answer c number) e (other_block _)

-- ---- of commands that look at the branches alone

-- by a test, and by whether there is a value
by_test : {R : Type 0} (t : Bool) (P Q : Type 0) → (P → R) → (Q → R) → MatchBool t P Q → R
by_test true P Q f g p = f p
by_test false P Q f g p = g p

by_value : {R X : Type 0} (o : Option X) (P : Type 0) (Q : X → Type 0) → (P → R) → ((x : X) → Q x → R) → MatchOption o P Q → R
by_value None P Q f g p = f p
by_value (Some x) P Q f g p = g x p

module _ (bytes : List ℕ) (old : Branches) (answer : List ℕ) (new : Branches) where
  refusal_begins : (rule : Rule) → RefusedBy bytes rule old answer new → BeginsOther answer
  refusal_begins P01 p = begins_is answer (answers.unread_answer p.0) p.2.0 (λ rest. refl)
  refusal_begins rule p = begins_is answer _ p.0 (λ rest. refl)

  stored_begins : Stores bytes old answer new → BeginsOther answer
  stored_begins p =
      let stamp = stamp_of p.0 in
      by_test (is_known old stamp) _ _ (λ h. begins_is answer (answers.known_answer stamp) h.0 (λ rest. refl))
      (by_test (nat_le most_stored (length old.store)) _ _ (λ h. begins_is answer answers.full_answer h.0 (λ rest. refl))
      (λ h. begins_is answer (answers.stored_answer stamp) h.0 (λ rest. refl))) p.2

  offer_begins : OfferTurn old bytes answer new → BeginsOther answer
  offer_begins p = by_value p.broken (Stores bytes old answer new) (λ rule. RefusedBy bytes rule old answer new) stored_begins refusal_begins p.decides

module _ (old : Branches) (stamp : Stamp) (answer : List ℕ) (new : Branches) where
  other_try : (path : List Block) (count : ℕ) → TriesPath old stamp path count answer new → IsOther answer
  other_try path count (inl p) = other_is answer (answers.switched_answer stamp) p.1 refl
  other_try path count (inr p) = other_is answer _ p.3.0 refl

  other_way : (path : List Block) (count : ℕ) → SwitchesBy old stamp path count answer new → IsOther answer
  other_way path count =
      by_test (nat_lt old.kept count) _ _ (λ h. other_is answer (answers.too_deep_answer old.kept) h.0 refl)
      (by_test (nat_lt most_stored ((length old.store - length path) + count)) _ _ (λ h. other_is answer answers.full_answer h.0 refl) (other_try path count))

  other_detached : (end : Option Stamp) → Detaches old end answer new → IsOther answer
  other_detached None p = absurd p
  other_detached (Some s) p = other_is answer (answers.detached_answer s) p.0 refl

  other_along : (path : List Block) (end : Option Stamp) → GoesAlong old stamp path end answer new → IsOther answer
  other_along path end = by_value (blocks_behind old.chain end) _ _ (other_detached end) (other_way path)

other_branches : (old : Branches) (c : Command) (frame answer : List ℕ) (new : Branches) → BranchesTurn old c frame answer new → IsOther answer
other_branches old (command.Verdict key hash sig) frame answer new p = other_is answer answers.noted_answer p.0 refl
other_branches old (command.Block len) frame answer new p =
    by_value p.broken _ _ (λ a. other_is answer (answers.accepted_answer (stamp_of a.0)) a.2 refl)
    (λ rule r. alone answer (refusal_begins frame old answer new rule r)) p.decides
other_branches old (command.Revert count) frame answer new p =
    by_test (nat_le count old.kept) _ _ (λ h. other_is answer (answers.reverted_answer count) h.0 refl)
    (λ h. other_is answer (answers.too_deep_answer old.kept) h.0 refl) p
other_branches old (command.Offer len) frame answer new p = alone answer (offer_begins frame old answer new p)
other_branches old (command.Switch stamp) frame answer new p =
    by_test (is_some (stored old.store stamp)) _ _ (other_along old stamp answer new p.path p.end)
    (λ h. other_is answer answers.unknown_answer h.0 refl) p.goes
other_branches old (command.Forget stamp) frame answer new p =
    by_test (is_some (stored old.store stamp)) _ _ (λ h. other_is answer answers.forgotten_answer h.0 refl)
    (λ h. other_is answer answers.unknown_answer h.0 refl) p
other_branches old (command.Statement cond) frame answer new p =
    other_is answer (answers.statement_answer old.chain cond.items) p.0 (other_ended answers.move_line _ (λ m rest. refl))
other_branches old (command.Auto on) frame answer new p = absurd p
other_branches old command.Failures frame answer new p = absurd p
other_branches old (command.Pend len) frame answer new p = absurd p
other_branches old (command.Unpend hash) frame answer new p = absurd p
other_branches old (command.Forge key time) frame answer new p = absurd p
other_branches old (command.Ask q) frame answer new p = other_reply old.chain q answer p.0

-- ---- and where the node chooses

other_choice : (first : List ℕ) (old : State) (answer : List ℕ) (new : State) → BeginsOther first → Chooses first old answer new → IsOther answer
other_choice first old answer new begin p = other_is answer _ p.text (begin _)

other_offer : (old : State) (bytes answer : List ℕ) (new : State) → OfferGoesOn old bytes answer new → IsOther answer
other_offer old bytes answer new p =
    let begin = offer_begins bytes (branches_of old) p.first p.branches p.offers in
    by_test (old.auto && nat_lt (length old.store) (length p.branches.store)) _ _
    (other_choice p.first (onward old p.branches) answer new begin) (λ h. other_is answer p.first h.0 (alone p.first begin)) p.goes_on

other_auto : (old : State) (on : Bool) (answer : List ℕ) (new : State) → AutoTurn old on answer new → IsOther answer
other_auto old true answer new p = other_choice answers.auto_on_answer (record old { auto = true }) answer new (λ rest. refl) p
other_auto old false answer new p = other_is answer answers.auto_off_answer p.0 refl

-- ---- documents that wait

other_pending : (old : State) (d : Doc) (answer : List ℕ) (new : State) → PendsDoc old d answer new → IsOther answer
other_pending old d answer new =
    by_test (is_pending old.pool (doc_hash d)) _ _ (λ h. other_is answer (answers.known_document_answer (doc_hash d)) h.0 refl)
    (by_test (nat_le most_pending (length old.pool)) _ _ (λ h. other_is answer answers.full_answer h.0 refl)
    (λ h. other_is answer (answers.pending_answer (doc_hash d)) h.0 refl))

abbrev IsPended : State → List ℕ → List ℕ → State → Type 0
IsPended old bytes answer new =
    ((d : Doc) × IsRead bytes d × PendsDoc old d answer new)
    ⊎ (((d : Doc) → IsRead bytes d → ⊥) × Only answers.no_document_answer old answer new)

other_pended : (old : State) (bytes answer : List ℕ) (new : State) → IsPended old bytes answer new → IsOther answer
other_pended old bytes answer new (inl p) = other_pending old p.0 answer new p.2
other_pended old bytes answer new (inr p) = other_is answer answers.no_document_answer p.1.0 refl

other_pend : (old : State) (bytes answer : List ℕ) (new : State) → PendTurn old bytes answer new → IsOther answer
other_pend old bytes answer new =
    by_test (nat_le (length bytes) longest_block) _ _ (other_pended old bytes answer new)
    (λ h. other_is answer (answers.refused_answer (code_text X01)) h.0 refl)

other_unpend : (old : State) (hash : Text) (answer : List ℕ) (new : State) → UnpendTurn old hash answer new → IsOther answer
other_unpend old hash answer new =
    by_test (is_pending old.pool hash) _ _ (λ h. other_is answer answers.forgotten_answer h.0 refl)
    (λ h. other_is answer answers.unknown_answer h.0 refl)

block_begins : (b : Block) → BeginsOther (block_text b)
unfolding block_text
block_begins b rest = refl

other_forged : (f : Forging) (answer : List ℕ) → IsForgedAnswer f answer → IsOther answer
other_forged f answer (inl p) = other_is answer (answers.forged_answer p.0 p.1) p.3 (block_begins p.0 _)
other_forged f answer (inr p) = other_is answer (answers.refused_answer (code_text p.0)) p.2 refl

other_forge : (f : Forging) (c : Chain) (answer : List ℕ) → IsForgeAnswer f c answer → IsOther answer
other_forge f [] answer p = other_is answer answers.none_answer p refl
other_forge f (b ∷ c) answer p = other_forged f answer p

pub other_turn : TurnsHaveOtherAnswers
other_turn old (command.Offer len) frame answer new p = other_offer old frame answer new p
other_turn old (command.Auto on) frame answer new p = other_auto old on answer new p
other_turn old command.Failures frame answer new p =
    other_is answer (answers.failures_answer old.failures) p.0 (other_ended answers.failed_line old.failures (λ f rest. refl))
other_turn old (command.Pend len) frame answer new p = other_pend old frame answer new p
other_turn old (command.Unpend hash) frame answer new p = other_unpend old hash answer new p
other_turn old (command.Forge key time) frame answer new p = other_forge (forging_of old key time) old.chain answer p.0
other_turn old c frame answer new p = other_branches (branches_of old) c frame answer p.0 p.1
