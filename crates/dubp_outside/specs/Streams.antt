-- What contracts see of a source or a sink over a reader or a writer of std.
use Rattle.std.specs.Prelude.{ℕ, Bool}

-- the reader, how often it failed, and whether it did so when it was last asked
pub record ReaderState (T : Type 0) : Type 0 where
  pub inner : T
  pub faults : ℕ
  pub failing : Bool

-- the writer, and how often it failed
pub record StreamState (T : Type 0) : Type 0 where
  pub inner : T
  pub faults : ℕ
