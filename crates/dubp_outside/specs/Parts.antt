-- What a sink holds after a piece was written in part.
use Rattle.std.specs.Prelude.{ℕ, ◌<◌, ◌≡◌, List, ◌++◌, length, Option}
use Rattle.std.specs.Io.KnownBytes.{Appends}

-- what is held grew by the front of the piece, and the back, which is not empty, is missing
pub record AppendsPart (old new : Option (List ℕ)) (piece : List ℕ) : Type 0 where
  pub front : List ℕ
  pub back : List ℕ
  pub whole : piece ≡ front ++ back
  pub lacks : 0 < length back
  pub held : Appends old new front
