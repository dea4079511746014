-- The queries that are answered in one line, and the small values that stand for them. Protocol: commands and answers.
use Rattle.std.specs.Prelude.{◌≤◌, length, ⊤}
use Rattle.dubp_replay.specs.declared.asked.Asked.{Asked}
use Rattle.dubp_replay.specs.declared.asked.Asked.TheVariants as asked
use Rattle.dubp_replay.specs.declared.query.Query.{Query}
use Rattle.dubp_replay.specs.declared.query.Query.TheVariants as query

abbrev pub IsOneLine : Query → Type 0
IsOneLine query.Head = ⊤
IsOneLine query.Money = ⊤
IsOneLine (query.Identity key) = ⊤
IsOneLine (query.Uid uid) = ⊤
IsOneLine (query.Balance cond) = ⊤
IsOneLine (query.Distance key) = ⊤
IsOneLine (query.Diff key) = ⊤
IsOneLine other = ⊥

-- the query that it stands for
abbrev pub query_of : Asked → Query
query_of asked.Head = query.Head
query_of asked.Money = query.Money
query_of (asked.Identity key) = query.Identity key
query_of (asked.Uid uid) = query.Uid uid
query_of (asked.Balance cond) = query.Balance (record { items = cond.now })
query_of (asked.Distance key) = query.Distance key
query_of (asked.Diff key) = query.Diff key

-- the text of its condition is no longer than a command has room for
abbrev pub IsShort : Asked → Type 0
IsShort (asked.Balance cond) = length cond.now ≤ 1000
IsShort other = ⊤
