-- What each command answers and how it changes the state, and runs of commands. Protocol: commands and answers.
use Rattle.std.specs.Prelude.{◌≡◌, ◌⊎◌, ◌≤◌, ◌&&◌, ℕ, ◌+◌, ◌-◌, min, Bool, true, false, not, List, [], ◌∷◌, ◌++◌, length, map, filter, find, take, drop, reverse, position, Option, Some, None, option_map, is_some, nat_le, nat_lt, ⊤, MatchBool}
use Rattle.std.specs.Option.{MatchOption}
use Rattle.std.specs.List.{list_any, flat_map}
use Rattle.dubp_atoms.specs.Same.{Text, same_stamp}
use Rattle.dubp_atoms.specs.Spelling.{IsNumber}
use Rattle.dubp_atoms.specs.declared.stamp.Stamp.{Stamp}
use Rattle.dubp_block.specs.declared.block.Block.{Block}
use Rattle.dubp_block.specs.Text.{stamp_of}
use Rattle.dubp_rules.specs.declared.rule.Rule.{Rule}
use Rattle.dubp_rules.specs.declared.rule.Rule.TheVariants.{X01, P01, G51}
use Rattle.dubp_rules.specs.Table.{table_rules, code_text, place_of}
use Rattle.dubp_rules.specs.First.{IsFirst}
use Rattle.dubp_replay.specs.declared.command.Command.{Command}
use Rattle.dubp_replay.specs.declared.command.Command.TheVariants as command
use Rattle.dubp_replay.specs.declared.failure.Failure.{Failure}
use Rattle.dubp_replay.specs.declared.query.Query.{Query}
use Rattle.dubp_replay.specs.declared.query.Query.TheVariants as query
use Rattle.dubp_chain.specs.Chains.{Chain}
use Rattle.dubp_forging.specs.OfPool.{Doc, IsRead, doc_hash, is_pending, most_pending, without as without_document}
use Rattle.dubp_forging.specs.Forged.{Forging, IsForged, IsTried}
use Rattle.dubp_resolve.specs.declared.view.Offered.{Offered}
use Rattle.dubp_resolve.specs.Choice.{Choices}
use Rattle.dubp_resolve.specs.Resolve.{Line, Switched, Failed, Resolves}
use Rattle.dubp_verdict.specs.Verdicts.{Verdicts, with_verdict}
use Rattle.dubp_validity.specs.Rules.{FirstBroken, FirstBrokenRaw, HoldsRaw, IsTextOf, longest_block}
use Rattle.dubp_block.specs.RefusedLine.{IsRefusedLine}
use Rattle.dubp_replay.specs.Answers.{noted_answer, accepted_answer, refused_answer, unread_answer, reverted_answer, too_deep_answer, stored_answer, known_answer, full_answer, switched_answer, unknown_answer, detached_answer, branch_refused_answer, forgotten_answer, statement_answer, bad_answer, no_memory_answer, auto_on_answer, auto_off_answer, failed_line, failures_answer, pending_answer, no_document_answer, known_document_answer, forged_answer, none_answer, IsAnswered}

-- what blocks are judged by and stand in: the verdicts, the chain of accepted and unreversed blocks, how many of them can be
-- reversed, and the stored blocks of branches in their order
pub record Branches : Type 0 where
  pub verdicts : Verdicts
  pub chain : Chain
  pub kept : ℕ
  pub store : List Block

abbrev pub no_branches : Branches
no_branches = record { verdicts = []; chain = []; kept = 0; store = [] }

-- how many blocks can be reversed at most, and how many are stored at most
abbrev pub most_kept : ℕ
most_kept = 100

abbrev pub most_stored : ℕ
most_stored = 1024

-- the answer, where nothing changes
abbrev pub Only : {X : Type 0} → List ℕ → X → List ℕ → X → Type 0
Only text old answer new = (answer ≡ text) × (new ≡ old)

-- ---- BLOCK

abbrev pub is_stamped : Stamp → Block → Bool
is_stamped stamp b = same_stamp stamp (stamp_of b)

abbrev pub without : Stamp → List Block → List Block
without stamp blocks = filter (λ b. not (is_stamped stamp b)) blocks

-- the block joins the chain and leaves the store
abbrev pub accepted : Branches → Block → Branches
accepted old b =
    record old { chain = b ∷ old.chain; kept = min (old.kept + 1) most_kept; store = without (stamp_of b) old.store }

-- the bytes are refused by this rule; where they are no block, with the line that is refused
abbrev pub RefusedBy : List ℕ → Rule → Branches → List ℕ → Branches → Type 0
RefusedBy bytes P01 old answer new = (line : ℕ) × IsRefusedLine bytes line × Only (unread_answer line) old answer new
RefusedBy bytes rule old answer new = Only (refused_answer (code_text rule)) old answer new

-- the block of these bytes is accepted
abbrev pub Accepts : List ℕ → Branches → List ℕ → Branches → Type 0
Accepts bytes old answer new =
    (b : Block) × IsTextOf bytes b × (answer ≡ accepted_answer (stamp_of b)) × (new ≡ accepted old b)

-- accepted where no rule is broken, else the first that is broken is named
pub record BlockTurn (old : Branches) (bytes answer : List ℕ) (new : Branches) : Type 0 where
  pub broken : Option Rule
  pub first : FirstBrokenRaw old.verdicts old.chain bytes broken
  pub decides : MatchOption broken (Accepts bytes old answer new) (λ rule. RefusedBy bytes rule old answer new)

-- ---- REVERT

abbrev pub RevertTurn : Branches → ℕ → List ℕ → Branches → Type 0
RevertTurn old count answer new =
    MatchBool (nat_le count old.kept)
    ((answer ≡ reverted_answer count) × (new ≡ record old { chain = drop count old.chain; kept = old.kept - count }))
    (Only (too_deep_answer old.kept) old answer new)

-- ---- OFFER

-- the rules that an offered block is read for: those before G51
abbrev pub offer_rules : List Rule
offer_rules = filter (λ rule. nat_lt (place_of rule) (place_of G51)) table_rules

abbrev pub is_known : Branches → Stamp → Bool
is_known s stamp = list_any (is_stamped stamp) (s.store ++ s.chain)

-- a block that breaks none of them is stored, unless it is known or the store is full
abbrev pub Stores : List ℕ → Branches → List ℕ → Branches → Type 0
Stores bytes old answer new =
    (b : Block) × IsTextOf bytes b ×
    MatchBool (is_known old (stamp_of b))
    (Only (known_answer (stamp_of b)) old answer new)
    (MatchBool (nat_le most_stored (length old.store))
    (Only full_answer old answer new)
    ((answer ≡ stored_answer (stamp_of b)) × (new ≡ record old { store = old.store ++ b ∷ [] })))

pub record OfferTurn (old : Branches) (bytes answer : List ℕ) (new : Branches) : Type 0 where
  pub broken : Option Rule
  pub first : IsFirst (HoldsRaw old.verdicts old.chain bytes) offer_rules broken
  pub decides : MatchOption broken (Stores bytes old answer new) (λ rule. RefusedBy bytes rule old answer new)

-- ---- SWITCH

-- the stamp of the block before; block 0 has none
abbrev pub previous_stamp : Block → Option Stamp
previous_stamp b = option_map (λ p. record { number = b.number - 1; hash = p.0 }) b.previous

abbrev pub stored : List Block → Stamp → Option Block
stored store stamp = find (is_stamped stamp) store

-- The path from a stamp, newest block first: each block is the stored one of the stamp that leads to it. It ends at a stamp that
-- is not stored, or behind a block of number 0, which has none before it.
abbrev pub IsPath : List Block → Stamp → List Block → Option Stamp → Type 0
IsPath store stamp [] end = (stored store stamp ≡ None) × (end ≡ Some stamp)
IsPath store stamp (b ∷ path) end =
    (stored store stamp ≡ Some b)
    × MatchOption (previous_stamp b) ((path ≡ []) × (end ≡ None)) (λ before. IsPath store before path end)

-- how many blocks of the chain stand behind the ancestor at which a path ends: all of them where it ends before block 0
abbrev pub blocks_behind : Chain → Option Stamp → Option ℕ
blocks_behind c None = Some (length c)
blocks_behind c (Some stamp) = position (is_stamped stamp) c

abbrev pub is_on : List Block → Block → Bool
is_on path b = list_any (is_stamped (stamp_of b)) path

-- the path stands on what is left of the chain, and the blocks that were reversed go to the end of the store, oldest first
abbrev pub switched : Branches → List Block → ℕ → Branches
switched old path count =
    record old {
      chain = path ++ drop count old.chain;
      kept = min ((old.kept - count) + length path) most_kept;
      store = filter (λ b. not (is_on path b)) old.store ++ reverse (take count old.chain);
    }

-- each block of the path breaks no rule on those before it, over this chain
abbrev pub IsAcceptedOn : Verdicts → Chain → List Block → Type 0
IsAcceptedOn v c [] = ⊤
IsAcceptedOn v c (b ∷ path) = FirstBroken v (path ++ c) b None × IsAcceptedOn v c path

-- the lowest block of the path that breaks a rule, and the first that it breaks
pub record BreaksAt (v : Verdicts) (c : Chain) (path : List Block) (b : Block) (rule : Rule) : Type 0 where
  pub above : List Block
  pub below : List Block
  pub stands : path ≡ above ++ b ∷ below
  pub passed : IsAcceptedOn v c below
  pub breaks : FirstBroken v (below ++ c) b (Some rule)

-- the path is accepted whole, or nothing changes
abbrev pub TriesPath : Branches → Stamp → List Block → ℕ → List ℕ → Branches → Type 0
TriesPath old stamp path count answer new =
    (IsAcceptedOn old.verdicts (drop count old.chain) path × (answer ≡ switched_answer stamp) × (new ≡ switched old path count))
    ⊎ ((b : Block) × (rule : Rule) × BreaksAt old.verdicts (drop count old.chain) path b rule
    × Only (branch_refused_answer (stamp_of b) (code_text rule)) old answer new)

-- so many blocks would be reversed
abbrev pub SwitchesBy : Branches → Stamp → List Block → ℕ → List ℕ → Branches → Type 0
SwitchesBy old stamp path count answer new =
    MatchBool (nat_lt old.kept count)
    (Only (too_deep_answer old.kept) old answer new)
    (MatchBool (nat_lt most_stored ((length old.store - length path) + count))
    (Only full_answer old answer new)
    (TriesPath old stamp path count answer new))

-- a path that ends at a stamp which is in neither store nor chain is detached
abbrev pub Detaches : Branches → Option Stamp → List ℕ → Branches → Type 0
Detaches old end answer new = MatchOption end ⊥ (λ stamp. Only (detached_answer stamp) old answer new)

-- along a path that ends there
abbrev pub GoesAlong : Branches → Stamp → List Block → Option Stamp → List ℕ → Branches → Type 0
GoesAlong old stamp path end answer new =
    MatchOption (blocks_behind old.chain end) (Detaches old end answer new) (λ count. SwitchesBy old stamp path count answer new)

pub record SwitchTurn (old : Branches) (stamp : Stamp) (answer : List ℕ) (new : Branches) : Type 0 where
  pub path : List Block
  pub end : Option Stamp
  pub is : IsPath old.store stamp path end
  pub goes : MatchBool (is_some (stored old.store stamp)) (GoesAlong old stamp path end answer new) (Only unknown_answer old answer new)

-- ---- FORGET

abbrev pub ForgetTurn : Branches → Stamp → List ℕ → Branches → Type 0
ForgetTurn old stamp answer new =
    MatchBool (is_some (stored old.store stamp))
    ((answer ≡ forgotten_answer) × (new ≡ record old { store = without stamp old.store }))
    (Only unknown_answer old answer new)

-- ---- what each command does to the branches

-- how many raw bytes follow the line of a command that heads a frame
abbrev pub frame_of : Command → Option ℕ
frame_of (command.Block len) = Some len
frame_of (command.Offer len) = Some len
frame_of (command.Pend len) = Some len
frame_of other = None

-- from these branches the command, with these raw bytes of its frame, may be answered so, and leads there
abbrev pub BranchesTurn : Branches → Command → List ℕ → List ℕ → Branches → Type 0
BranchesTurn old (command.Verdict key hash sig) frame answer new =
    (answer ≡ noted_answer)
    × (new ≡ record old { verdicts = with_verdict (record { key = key; hash = hash; sig = sig }) old.verdicts })
BranchesTurn old (command.Block len) frame answer new = BlockTurn old frame answer new
BranchesTurn old (command.Revert count) frame answer new = RevertTurn old count answer new
BranchesTurn old (command.Offer len) frame answer new = OfferTurn old frame answer new
BranchesTurn old (command.Switch stamp) frame answer new = SwitchTurn old stamp answer new
BranchesTurn old (command.Forget stamp) frame answer new = ForgetTurn old stamp answer new
BranchesTurn old (command.Statement cond) frame answer new = Only (statement_answer old.chain cond.items) old answer new
BranchesTurn old (command.Auto on) frame answer new = ⊥
BranchesTurn old command.Failures frame answer new = ⊥
BranchesTurn old (command.Pend len) frame answer new = ⊥
BranchesTurn old (command.Unpend hash) frame answer new = ⊥
BranchesTurn old (command.Forge key time) frame answer new = ⊥
BranchesTurn old (command.Ask q) frame answer new = IsAnswered old.chain q answer × (new ≡ old)

-- ---- the state, and the choice of a branch

-- what all answers depend on: the branches, whether the node chooses among them by itself, where those that it chose failed, and the
-- documents that wait for a block
pub record State : Type 0 where
  pub verdicts : Verdicts
  pub chain : Chain
  pub kept : ℕ
  pub store : List Block
  pub auto : Bool
  pub failures : List Failure
  pub pool : List Doc

abbrev pub start : State
start = record { verdicts = []; chain = []; kept = 0; store = []; auto = false; failures = []; pool = [] }

abbrev pub branches_of : State → Branches
branches_of s = record { verdicts = s.verdicts; chain = s.chain; kept = s.kept; store = s.store }

-- a failure is kept as long as the block at which it came is stored
abbrev pub left_over : List Block → List Failure → List Failure
left_over store failures = filter (λ f. list_any (is_stamped f.at) store) failures

-- with these branches in place of those before
abbrev pub onward : State → Branches → State
onward old b = record { verdicts = b.verdicts; chain = b.chain; kept = b.kept; store = b.store; auto = old.auto; failures = left_over b.store old.failures; pool = old.pool }

abbrev pub offered : Block → Offered
offered b = record { stamp = stamp_of b; previous = previous_stamp b }

-- what a choice depends on
abbrev pub choices_of : State → Choices
choices_of s = record { offers = map offered s.store; recent = map stamp_of s.chain; length = length s.chain; kept = s.kept; failed = map (λ f. f.at) s.failures }

-- the branch that ends at a stored block, and how many blocks of the chain stand behind where it begins
pub record LeadsOff (s : Branches) (stamp : Stamp) (path : List Block) (count : ℕ) : Type 0 where
  pub end : Option Stamp
  pub is : IsPath s.store stamp path end
  pub behind : blocks_behind s.chain end ≡ Some count

-- the branch to this block is accepted whole, and takes the place of the chain's last blocks
abbrev pub Succeeds : State → Stamp → State → Type 0
Succeeds old stamp new =
    (path : List Block) × (count : ℕ) × LeadsOff (branches_of old) stamp path count
    × IsAcceptedOn old.verdicts (drop count old.chain) path × (new ≡ onward old (switched (branches_of old) path count))

-- the branch fails so, which is noted; nothing else changes
abbrev pub Fails : State → Failure → State → Type 0
Fails old f new =
    (path : List Block) × (count : ℕ) × LeadsOff (branches_of old) f.tip path count
    × ((b : Block) × (f.at ≡ stamp_of b) × BreaksAt old.verdicts (drop count old.chain) path b f.rule) × (new ≡ record old { failures = old.failures ++ f ∷ [] })

-- one choice after another is tried, until one is switched to or none is left
abbrev pub ResolvesBy : State → List (Line Failure) → State → Type 0
ResolvesBy = Resolves (λ f. f.tip) (λ f. f.at) choices_of Succeeds Fails

abbrev pub choice_line : Line Failure → List ℕ
choice_line (Switched tip) = switched_answer tip
choice_line (Failed f) = failed_line f

-- behind this line the lines of what is tried from this state on, which leads there
pub record Chooses (first : List ℕ) (old : State) (answer : List ℕ) (new : State) : Type 0 where
  pub lines : List (Line Failure)
  pub resolves : ResolvesBy old lines new
  pub text : answer ≡ first ++ flat_map choice_line lines

-- AUTO: the node chooses from now on, and at once; or no longer
abbrev pub AutoTurn : State → Bool → List ℕ → State → Type 0
AutoTurn old true answer new = Chooses auto_on_answer (record old { auto = true }) answer new
AutoTurn old false answer new = (answer ≡ auto_off_answer) × (new ≡ record old { auto = false })

-- OFFER: where the block was stored, so that there is one more, and the node chooses by itself, it does so then
pub record OfferGoesOn (old : State) (bytes answer : List ℕ) (new : State) : Type 0 where
  pub first : List ℕ
  pub branches : Branches
  pub offers : OfferTurn (branches_of old) bytes first branches
  pub goes_on :
      MatchBool (old.auto && nat_lt (length old.store) (length branches.store))
      (Chooses first (onward old branches) answer new)
      (Only first (onward old branches) answer new)

-- ---- documents that wait

-- the document goes to the end of those that wait, unless it waits already or as many wait as may
abbrev pub PendsDoc : State → Doc → List ℕ → State → Type 0
PendsDoc old d answer new =
    MatchBool (is_pending old.pool (doc_hash d))
    (Only (known_document_answer (doc_hash d)) old answer new)
    (MatchBool (nat_le most_pending (length old.pool))
    (Only full_answer old answer new)
    ((answer ≡ pending_answer (doc_hash d)) × (new ≡ record old { pool = old.pool ++ d ∷ [] })))

-- PEND: the bytes, where they are not too many, are the text of a document or of none
abbrev pub PendTurn : State → List ℕ → List ℕ → State → Type 0
PendTurn old bytes answer new =
    MatchBool (nat_le (length bytes) longest_block)
    (((d : Doc) × IsRead bytes d × PendsDoc old d answer new)
    ⊎ (((d : Doc) → IsRead bytes d → ⊥) × Only no_document_answer old answer new))
    (Only (refused_answer (code_text X01)) old answer new)

-- UNPEND: the document whose text has this hash waits no longer
abbrev pub UnpendTurn : State → Text → List ℕ → State → Type 0
UnpendTurn old hash answer new =
    MatchBool (is_pending old.pool hash)
    ((answer ≡ forgotten_answer) × (new ≡ record old { pool = without_document hash old.pool }))
    (Only unknown_answer old answer new)

-- what this key would forge a block from at this time
abbrev pub forging_of : State → Text → ℕ → Forging
forging_of s key time = record { verdicts = s.verdicts; chain = s.chain; issuer = key; time = time; pool = s.pool }

-- the forged block and what is left out; or the rule that the draft without documents breaks
abbrev pub IsForgedAnswer : Forging → List ℕ → Type 0
IsForgedAnswer f answer =
    ((b : Block) × (left : List (Text × Rule)) × IsForged f b left × (answer ≡ forged_answer b left))
    ⊎ ((rule : Rule) × IsTried f [] (Some rule) × (answer ≡ refused_answer (code_text rule)))

-- FORGE: behind no block nothing is forged
abbrev pub IsForgeAnswer : Forging → Chain → List ℕ → Type 0
IsForgeAnswer f [] answer = answer ≡ none_answer
IsForgeAnswer f (a ∷ c) answer = IsForgedAnswer f answer

abbrev pub ForgeTurn : State → Text → ℕ → List ℕ → State → Type 0
ForgeTurn old key time answer new = IsForgeAnswer (forging_of old key time) old.chain answer × (new ≡ old)

-- ---- turns and runs

-- from this state the command, with these raw bytes of its frame, may be answered so, and leads there
abbrev pub Turn : State → Command → List ℕ → List ℕ → State → Type 0
Turn old (command.Offer len) frame answer new = OfferGoesOn old frame answer new
Turn old (command.Auto on) frame answer new = AutoTurn old on answer new
Turn old command.Failures frame answer new = Only (failures_answer old.failures) old answer new
Turn old (command.Pend len) frame answer new = PendTurn old frame answer new
Turn old (command.Unpend hash) frame answer new = UnpendTurn old hash answer new
Turn old (command.Forge key time) frame answer new = ForgeTurn old key time answer new
Turn old command frame answer new = (b : Branches) × BranchesTurn (branches_of old) command frame answer b × (new ≡ onward old b)

-- the queries that take memory
abbrev pub AskingTakesMemory : Query → Type 0
AskingTakesMemory query.Head = ⊥
AskingTakesMemory query.Money = ⊥
AskingTakesMemory (query.Identity key) = ⊥
AskingTakesMemory (query.Uid uid) = ⊥
AskingTakesMemory (query.Balance cond) = ⊥
AskingTakesMemory (query.Diff key) = ⊥
AskingTakesMemory q = ⊤

-- The commands that take memory, and may be answered NOMEM. A frame that is longer than frames are read takes none.
abbrev pub TakesMemory : Command → Type 0
TakesMemory (command.Verdict key hash sig) = ⊤
TakesMemory (command.Block len) = len ≤ longest_block
TakesMemory (command.Revert count) = ⊥
TakesMemory (command.Offer len) = len ≤ longest_block
TakesMemory (command.Switch stamp) = ⊤
TakesMemory (command.Forget stamp) = ⊥
TakesMemory (command.Statement cond) = ⊤
TakesMemory (command.Auto on) = on ≡ true
TakesMemory command.Failures = ⊤
TakesMemory (command.Pend len) = len ≤ longest_block
TakesMemory (command.Unpend hash) = ⊥
TakesMemory (command.Forge key time) = ⊤
TakesMemory (command.Ask q) = AskingTakesMemory q

-- the time of a block that is to be forged is a number, as each line of the command says it
abbrev pub IsTimely : Command → Type 0
IsTimely (command.Forge key time) = IsNumber time
IsTimely command = ⊤

-- the turn of the command, or NOMEM, which changes nothing
abbrev pub TurnOrLack : State → Command → List ℕ → List ℕ → State → Type 0
TurnOrLack old command frame answer new =
    Turn old command frame answer new ⊎ (TakesMemory command × Only no_memory_answer old answer new)

-- what stands in the input: a command with the raw bytes of its frame, or None, where it is no command
abbrev pub Asked : Type 0
Asked = Option (Command × List ℕ)

-- what is no command is answered BAD, and changes nothing
abbrev pub IsServed : State → Asked → List ℕ → State → Type 0
IsServed old None answer new = Only bad_answer old answer new
IsServed old (Some (command, frame)) answer new = TurnOrLack old command frame answer new

-- One after another: each may be answered so from the state that the one before left.
abbrev pub Runs : {X : Type 0} → (State → X → List ℕ → State → Type 0) → State → List X → List (List ℕ) → State → Type 0
Runs Serves state [] [] new = new ≡ state
Runs Serves state (x ∷ xs) (answer ∷ answers) new = (middle : State) × Serves state x answer middle × Runs Serves middle xs answers new
Runs Serves state [] (answer ∷ answers) new = ⊥
Runs Serves state (x ∷ xs) [] new = ⊥
