-- What contracts see of the sources and sinks in memory, how many bytes a call moves, and in which calls they fail.
-- The bytes are lists, the first byte first; calls are numbered from 0, those that fail among them.
use Rattle.std.specs.Prelude.{ℕ, Bool, ◌+◌, ◌^◌, ◌<◌, min, List, length, Contains, ◌⊎◌, Option, None, Some}

pub record PlainSinkState : Type 0 where
  -- for how many bytes it has room, those that it holds among them
  pub room : ℕ
  pub held : List ℕ
  -- how often it has failed
  pub faults : ℕ
  -- how many bytes fit the memory that it took: a call that takes no memory leaves it as it was
  pub capacity : ℕ

pub record MemSourceState : Type 0 where
  pub left : List ℕ
  -- how many bytes it gives at most in a call
  pub most : ℕ
  -- the numbers of the calls that fail, and the number of the next call
  pub fails : List ℕ
  pub calls : ℕ
  pub faults : ℕ
  -- whether the last call failed
  pub failing : Bool

pub record MemSinkState : Type 0 where
  pub room : ℕ
  pub held : List ℕ
  -- how many bytes it takes at most in a call
  pub most : ℕ
  pub fails : List ℕ
  pub calls : ℕ
  pub faults : ℕ
  pub capacity : ℕ

-- the number of the call after this one: past the greatest u64 it stays at 2 ^ 64, which stands in no list of u64
abbrev pub next_call : ℕ → ℕ
next_call call = min (call + 1) (2 ^ 64)

-- how many bytes a call gives that does not fail, into a buffer of this length
abbrev pub given_count : MemSourceState → ℕ → ℕ
given_count s len = min (min s.most len) (length s.left)

-- how many bytes of a piece a call takes that does not fail
abbrev pub taken_count : MemSinkState → List ℕ → ℕ
taken_count s piece = min s.most (length piece)

-- a call with this piece fails: its number is listed, or the bytes that it would take do not fit
abbrev pub FailsAt : MemSinkState → List ℕ → Type 0
FailsAt s piece = Contains s.fails s.calls ⊎ (s.room < length s.held + taken_count s piece)

-- ---- for the code that holds bytes and counts calls

pub record HeldState : Type 0 where
  pub room : ℕ
  pub bytes : List ℕ
  pub capacity : ℕ

pub record ScheduleState : Type 0 where
  pub fails : List ℕ
  pub calls : ℕ

-- the number of the next call as it is kept, where there is none past the greatest u64
abbrev pub number_of : Option ℕ → ℕ
number_of (Some call) = call
number_of None = 2 ^ 64
