-- The texts of answers. Protocol: commands and answers.
use Rattle.std.specs.Prelude.{◌≡◌, ℕ, ◌&&◌, List, [], ◌∷◌, ◌++◌, codes, Option, Some, None, map, filter, find, unwrap_or, if◌then◌else◌}
use Rattle.std.specs.List.{flat_map}
use Rattle.std.specs.Option.{MatchOption, option_map_or}
use Rattle.std.specs.Fmt.{decimal, signed_decimal}
use Rattle.dubp_atoms.specs.Letters.{LF, SPACE}
use Rattle.dubp_atoms.specs.Spelling.{stamp_text}
use Rattle.dubp_atoms.specs.declared.stamp.Stamp.{Stamp}
use Rattle.dubp_chain.specs.HeadStamp.{head_stamp}
use Rattle.dubp_chain.specs.declared.head.Head.{Head}
use Rattle.dubp_atoms.specs.Same.{Text, same_text}
use Rattle.dubp_cond.specs.Sources.{input_text}
use Rattle.dubp_cond.specs.declared.source.Input.{Input}
use Rattle.dubp_block.specs.declared.block.Block.{Block}
use Rattle.dubp_block.specs.declared.block.IdentityLine.{IdentityLine}
use Rattle.dubp_block.specs.declared.block.CertLine.{CertLine}
use Rattle.dubp_block.specs.Text.{block_text}
use Rattle.dubp_rules.specs.declared.rule.Rule.{Rule}
use Rattle.dubp_rules.specs.Table.{code_text}
use Rattle.dubp_replay.specs.declared.failure.Failure.{Failure}
use Rattle.dubp_replay.specs.declared.query.Query.{Query}
use Rattle.dubp_replay.specs.declared.query.Query.TheVariants as query
use Rattle.dubp_validity.specs.declared.record.Record.{Record}
use Rattle.dubp_chain.specs.Words.{in_order}
use Rattle.dubp_chain.specs.Chains.{Chain, block_of_number}
use Rattle.dubp_chain.specs.Members.{member}
use Rattle.dubp_chain.specs.Heads.{head_of, issued, difficulty}
use Rattle.dubp_chain.specs.People.{Written, identity, identity_lines, expiry, leaving, revoked}
use Rattle.dubp_chain.specs.Live.{certification, made_of, end_of, received, stock, live_pairs}
use Rattle.dubp_chain.specs.Distance.{IsReached, IsNear, sentry_count}
use Rattle.dubp_chain.specs.Money.{Source, unspent_units, cleared_units, balance, sources_of}
use Rattle.dubp_validity.specs.Records.{records_at, record_text, input_of}
use Rattle.dubp_moves.specs.Moves.{moves_of}
use Rattle.dubp_moves.specs.declared.moves.Kind.{Kind}
use Rattle.dubp_moves.specs.declared.moves.Kind.TheVariants.{Made, Spent, Cleared}
use Rattle.dubp_moves.specs.declared.moves.Move.{Move}

-- a line of an answer
abbrev pub answer_line : List ℕ → List ℕ
answer_line text = text ++ LF ∷ []

-- a value behind a space
abbrev pub spaced : List ℕ → List ℕ
spaced text = SPACE ∷ text

-- HEAD STAMP MEDIANTIME MEMBERS POWMIN DIVIDEND UNITBASE MASS FRAME VAR ISSUERS
abbrev pub head_text : Head → List ℕ
head_text h =
    codes "HEAD"
    ++ (spaced (stamp_text (head_stamp h))
    ++ (spaced (decimal h.median_time)
    ++ (spaced (decimal h.members)
    ++ (spaced (decimal h.pow_min)
    ++ (spaced (decimal h.dividend)
    ++ (spaced (decimal h.unit_base)
    ++ (spaced (decimal h.mass)
    ++ (spaced (decimal h.frame)
    ++ (spaced (signed_decimal h.frame_var)
    ++ spaced (decimal h.issuers))))))))))

abbrev pub none_answer : List ℕ
none_answer = answer_line (codes "NONE")

-- the answer to HEAD
abbrev pub head_answer : Option Head → List ℕ
head_answer None = none_answer
head_answer (Some h) = answer_line (head_text h)

-- ---- what changes the state

abbrev pub noted_answer : List ℕ
noted_answer = answer_line (codes "NOTED")

abbrev pub accepted_answer : Stamp → List ℕ
accepted_answer stamp = answer_line (codes "ACCEPTED " ++ stamp_text stamp)

-- a refusal with the code of a rule, or with a code of its own
abbrev pub refused_answer : List ℕ → List ℕ
refused_answer code = answer_line (codes "REFUSED " ++ code)

-- the bytes are no block, and this line of them is refused
abbrev pub unread_answer : ℕ → List ℕ
unread_answer line = refused_answer (codes "P01 " ++ decimal line)

abbrev pub reverted_answer : ℕ → List ℕ
reverted_answer count = answer_line (codes "REVERTED " ++ decimal count)

-- fewer blocks can be reversed
abbrev pub too_deep_answer : ℕ → List ℕ
too_deep_answer kept = refused_answer (codes "W01 " ++ decimal kept)

abbrev pub stored_answer : Stamp → List ℕ
stored_answer stamp = answer_line (codes "STORED " ++ stamp_text stamp)

abbrev pub known_answer : Stamp → List ℕ
known_answer stamp = answer_line (codes "KNOWN " ++ stamp_text stamp)

abbrev pub full_answer : List ℕ
full_answer = answer_line (codes "FULL 1024")

abbrev pub switched_answer : Stamp → List ℕ
switched_answer stamp = answer_line (codes "SWITCHED " ++ stamp_text stamp)

abbrev pub unknown_answer : List ℕ
unknown_answer = answer_line (codes "UNKNOWN")

abbrev pub detached_answer : Stamp → List ℕ
detached_answer stamp = answer_line (codes "DETACHED " ++ stamp_text stamp)

-- a block of the branch breaks this rule
abbrev pub branch_refused_answer : Stamp → List ℕ → List ℕ
branch_refused_answer stamp code = refused_answer (stamp_text stamp ++ spaced code)

abbrev pub forgotten_answer : List ℕ
forgotten_answer = answer_line (codes "FORGOTTEN")

-- the line is no command, or the frame does not end with LF
abbrev pub bad_answer : List ℕ
bad_answer = answer_line (codes "BAD")

-- memory ran out
abbrev pub no_memory_answer : List ℕ
no_memory_answer = answer_line (codes "NOMEM")

-- ---- queries

-- a name and its values, each behind a space
abbrev pub values_line : List ℕ → List Text → List ℕ
values_line name values = answer_line (name ++ flat_map spaced values)

-- lines, and END behind them
abbrev pub ended : List (List ℕ) → List ℕ
ended lines = flat_map (λ line. line) lines ++ answer_line (codes "END")

-- MONEY ISSUED UNSPENT CLEARED
abbrev pub money_answer : Chain → List ℕ
money_answer c = values_line (codes "MONEY") (decimal (issued c) ∷ decimal (unspent_units c) ∷ decimal (cleared_units c) ∷ [])

-- the first that holds of REVOKED, LEAVING (a leaving member), MEMBER, OUT
abbrev pub standing : Chain → Text → List ℕ
standing c k =
    if revoked c k then codes "REVOKED"
    else if member c k && leaving c k then codes "LEAVING"
    else if member c k then codes "MEMBER"
    else codes "OUT"

-- IDENTITY KEY UID WRITTEN STATE EXPIRES RECEIVED ISSUED
abbrev pub identity_values : Chain → Written IdentityLine → List Text
identity_values c w =
    let k = w.line.key in
    k ∷ w.line.uid ∷ decimal w.block.number ∷ standing c k ∷ decimal (unwrap_or (expiry c k) 0) ∷ decimal (received c k) ∷ decimal (stock c k) ∷ []

abbrev pub identity_answer_of : Chain → Option (Written IdentityLine) → List ℕ
identity_answer_of c None = none_answer
identity_answer_of c (Some w) = values_line (codes "IDENTITY") (identity_values c w)

abbrev pub identity_answer : Chain → Text → List ℕ
identity_answer c k = identity_answer_of c (identity c k)

-- the same of the key whose line of Identities has the name
abbrev pub uid_answer_of : Chain → Option IdentityLine → List ℕ
uid_answer_of c None = none_answer
uid_answer_of c (Some line) = identity_answer c line.key

abbrev pub uid_answer : Chain → Text → List ℕ
uid_answer c uid = uid_answer_of c (find (λ line. same_text uid line.uid) (identity_lines c))

-- CERT FROM TO MADE EXPIRES WRITTEN
abbrev pub certification_values : Chain → Text × Text → Option (Written CertLine) → List Text
certification_values c (a, b) None = []
certification_values c (a, b) (Some w) = a ∷ b ∷ decimal (made_of w) ∷ decimal (end_of c w) ∷ decimal w.block.number ∷ []

abbrev pub certification_line : Chain → Text × Text → List ℕ
certification_line c p = values_line (codes "CERT") (certification_values c p (certification c p.0 p.1))

-- the live pairs to k by issuer, and then those from k by receiver
abbrev pub pairs_to : Chain → Text → List (Text × Text)
pairs_to c k = map (λ a. (a, k)) (in_order (map (λ p. p.0) (filter (λ p. same_text k p.1) (live_pairs c))))

abbrev pub pairs_from : Chain → Text → List (Text × Text)
pairs_from c k = map (λ b. (k, b)) (in_order (map (λ p. p.1) (filter (λ p. same_text k p.0) (live_pairs c))))

abbrev pub certs_answer : Chain → Text → List ℕ
certs_answer c k =
    option_map_or (λ _. ended (map (certification_line c) (pairs_to c k ++ pairs_from c k))) (identity c k) none_answer

abbrev pub balance_answer : Chain → Text → List ℕ
balance_answer c cond = values_line (codes "BALANCE") (decimal (balance c cond) ∷ [])

-- SOURCE AMOUNT:BASE:SOURCE
abbrev pub source_line : Source → List ℕ
source_line s = values_line (codes "SOURCE") (input_text (input_of s) ∷ [])

abbrev pub sources_answer : Chain → Text → List ℕ
sources_answer c cond = ended (map source_line (sources_of c cond))

-- DISTANCE REACHED SENTRIES, and whether that is near enough
abbrev pub distance_line : ℕ → ℕ → List ℕ → List ℕ
distance_line reached count verdict = values_line (codes "DISTANCE") (decimal reached ∷ decimal count ∷ verdict ∷ [])

pub record IsDistance (c : Chain) (k : Text) (answer : List ℕ) : Type 0 where
  pub reached : ℕ
  pub counted : IsReached c k reached
  pub near : IsNear c reached (sentry_count c k) → answer ≡ distance_line reached (sentry_count c k) (codes "PASS")
  pub far : (IsNear c reached (sentry_count c k) → ⊥) → answer ≡ distance_line reached (sentry_count c k) (codes "FAIL")

abbrev pub diff_answer_of : Option ℕ → List ℕ
diff_answer_of None = none_answer
diff_answer_of (Some d) = values_line (codes "DIFF") (decimal d ∷ [])

abbrev pub diff_answer : Chain → Text → List ℕ
diff_answer c k = if member c k then diff_answer_of (difficulty c k) else none_answer

abbrev pub records_answer_of : Option (List Record) → List ℕ
records_answer_of None = none_answer
records_answer_of (Some rows) = ended (map (λ r. answer_line (record_text r)) rows)

abbrev pub records_answer : Chain → ℕ → List ℕ
records_answer c number = records_answer_of (records_at c number)

abbrev pub show_answer_of : Option Block → List ℕ
show_answer_of None = none_answer
show_answer_of (Some b) = block_text b ++ answer_line (codes "END")

abbrev pub show_answer : Chain → ℕ → List ℕ
show_answer c number = show_answer_of (block_of_number c number)

-- ---- choice

abbrev pub auto_on_answer : List ℕ
auto_on_answer = answer_line (codes "AUTO ON")

abbrev pub auto_off_answer : List ℕ
auto_off_answer = answer_line (codes "AUTO OFF")

-- FAILED TIP AT RULE
abbrev pub failed_line : Failure → List ℕ
failed_line f = values_line (codes "FAILED") (stamp_text f.tip ∷ stamp_text f.at ∷ code_text f.rule ∷ [])

abbrev pub failures_answer : List Failure → List ℕ
failures_answer failures = ended (map failed_line failures)

-- ---- statements

abbrev pub kind_text : Kind → List ℕ
kind_text Made = codes "MADE"
kind_text Spent = codes "SPENT"
kind_text Cleared = codes "CLEARED"

-- the source that a move is about
abbrev pub moved_input : Move → Input
moved_input m = record { amount = m.amount; base = m.base; source = m.source }

-- MOVE NUMBER KIND AMOUNT:BASE:SOURCE BALANCE
abbrev pub move_line : Move → List ℕ
move_line m = values_line (codes "MOVE") (decimal m.number ∷ kind_text m.kind ∷ input_text (moved_input m) ∷ decimal m.balance ∷ [])

-- the moves of the condition of this text
abbrev pub statement_answer : Chain → Text → List ℕ
statement_answer c cond = ended (map move_line (moves_of c cond))

-- ---- documents that wait

-- documents are told by the SHA-256 of their texts
abbrev pub pending_answer : Text → List ℕ
pending_answer hash = answer_line (codes "PENDING " ++ hash)

abbrev pub known_document_answer : Text → List ℕ
known_document_answer hash = answer_line (codes "KNOWN " ++ hash)

-- the bytes are the text of no document
abbrev pub no_document_answer : List ℕ
no_document_answer = refused_answer (codes "D01")

-- LEFT HASH RULE
abbrev pub left_line : Text × Rule → List ℕ
left_line l = values_line (codes "LEFT") (l.0 ∷ code_text l.1 ∷ [])

-- the text of the block, and the documents that it leaves out
abbrev pub forged_answer : Block → List (Text × Rule) → List ℕ
forged_answer b left = block_text b ++ ended (map left_line left)

-- what each query is answered
abbrev pub IsAnswered : Chain → Query → List ℕ → Type 0
IsAnswered c query.Head answer = answer ≡ head_answer (head_of c)
IsAnswered c query.Money answer = answer ≡ money_answer c
IsAnswered c (query.Identity key) answer = answer ≡ identity_answer c key
IsAnswered c (query.Uid uid) answer = answer ≡ uid_answer c uid
IsAnswered c (query.Certs key) answer = answer ≡ certs_answer c key
IsAnswered c (query.Balance cond) answer = answer ≡ balance_answer c cond.items
IsAnswered c (query.Sources cond) answer = answer ≡ sources_answer c cond.items
IsAnswered c (query.Distance key) answer = MatchOption (identity c key) (answer ≡ none_answer) (λ _. IsDistance c key answer)
IsAnswered c (query.Diff key) answer = answer ≡ diff_answer c key
IsAnswered c (query.Records number) answer = answer ≡ records_answer c number
IsAnswered c (query.Show number) answer = answer ≡ show_answer c number
