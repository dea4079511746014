-- The one spelling of each command, without its LF. Protocol: commands and answers.
use Rattle.std.specs.Prelude.{◌≡◌, ℕ, List, ◌∷◌, ◌++◌, codes, true, false, ⊤}
use Rattle.std.specs.Fmt.{decimal}
use Rattle.dubp_atoms.specs.Letters.{SPACE, is_key, is_uid, is_hash, is_sig}
use Rattle.dubp_atoms.specs.Spelling.{IsNumber, stamp_text, IsStamp}
use Rattle.dubp_cond.specs.Tree.{CondTree}
use Rattle.dubp_cond.specs.Conditions.{cond_text, IsCond}
use Rattle.dubp_replay.specs.declared.query.Query.{Query}
use Rattle.dubp_replay.specs.declared.query.Query.TheVariants as query
use Rattle.dubp_replay.specs.declared.command.Command.{Command}
use Rattle.dubp_replay.specs.declared.command.Command.TheVariants as command

-- the line of a query
abbrev pub query_text : Query → List ℕ
query_text query.Head = codes "HEAD"
query_text query.Money = codes "MONEY"
query_text (query.Identity key) = codes "IDENTITY " ++ key
query_text (query.Uid uid) = codes "UID " ++ uid
query_text (query.Certs key) = codes "CERTS " ++ key
query_text (query.Balance cond) = codes "BALANCE " ++ cond.items
query_text (query.Sources cond) = codes "SOURCES " ++ cond.items
query_text (query.Distance key) = codes "DISTANCE " ++ key
query_text (query.Diff key) = codes "DIFF " ++ key
query_text (query.Records number) = codes "RECORDS " ++ decimal number
query_text (query.Show number) = codes "SHOW " ++ decimal number

-- the line of a command; BLOCK, OFFER and PEND tell how many raw bytes follow
abbrev pub command_text : Command → List ℕ
command_text (command.Verdict key hash sig) = codes "VERDICT " ++ (key ++ SPACE ∷ (hash ++ SPACE ∷ sig))
command_text (command.Block len) = codes "BLOCK " ++ decimal len
command_text (command.Revert count) = codes "REVERT " ++ decimal count
command_text (command.Offer len) = codes "OFFER " ++ decimal len
command_text (command.Switch stamp) = codes "SWITCH " ++ stamp_text stamp
command_text (command.Forget stamp) = codes "FORGET " ++ stamp_text stamp
command_text (command.Statement cond) = codes "STATEMENT " ++ cond.items
command_text (command.Auto true) = codes "AUTO ON"
command_text (command.Auto false) = codes "AUTO OFF"
command_text command.Failures = codes "FAILED"
command_text (command.Pend len) = codes "PEND " ++ decimal len
command_text (command.Unpend hash) = codes "UNPEND " ++ hash
command_text (command.Forge key time) = codes "FORGE " ++ (key ++ SPACE ∷ decimal time)
command_text (command.Ask q) = query_text q

-- the text of some condition
abbrev pub IsCondText : List ℕ → Type 0
IsCondText text = (c : CondTree) × IsCond c × (text ≡ cond_text c)

-- the queries that have a line
abbrev pub IsQuery : Query → Type 0
IsQuery query.Head = ⊤
IsQuery query.Money = ⊤
IsQuery (query.Identity key) = is_key key ≡ true
IsQuery (query.Uid uid) = is_uid uid ≡ true
IsQuery (query.Certs key) = is_key key ≡ true
IsQuery (query.Balance cond) = IsCondText cond.items
IsQuery (query.Sources cond) = IsCondText cond.items
IsQuery (query.Distance key) = is_key key ≡ true
IsQuery (query.Diff key) = is_key key ≡ true
IsQuery (query.Records number) = IsNumber number
IsQuery (query.Show number) = IsNumber number

-- the commands that have a line
abbrev pub IsCommand : Command → Type 0
IsCommand (command.Verdict key hash sig) = (is_key key ≡ true) × (is_hash hash ≡ true) × (is_sig sig ≡ true)
IsCommand (command.Block len) = IsNumber len
IsCommand (command.Revert count) = IsNumber count
IsCommand (command.Offer len) = IsNumber len
IsCommand (command.Switch stamp) = IsStamp stamp
IsCommand (command.Forget stamp) = IsStamp stamp
IsCommand (command.Statement cond) = IsCondText cond.items
IsCommand (command.Auto on) = ⊤
IsCommand command.Failures = ⊤
IsCommand (command.Pend len) = IsNumber len
IsCommand (command.Unpend hash) = is_hash hash ≡ true
IsCommand (command.Forge key time) = (is_key key ≡ true) × IsNumber time
IsCommand (command.Ask q) = IsQuery q

-- the line is the spelling of this command
pub record Says (line : List ℕ) (command : Command) : Type 0 where
  pub is : IsCommand command
  pub text : line ≡ command_text command
