-- A text that passes the test of a reader is read.
use Rattle.std.proofs.Common.{◌≡◌, ℕ, Bool, true, List, Option, refl}
use Rattle.std.specs.Option.{IsSome}
use Rattle.dubp_atoms.specs.Reading.{text_if}

pub is_read : (test : List ℕ → Bool) (read : Option (List ℕ)) (text : List ℕ) → read ≡ text_if test text → test text ≡ true → IsSome read
is_read test read text e h = rw (e, h) refl
