-- The times of the last blocks. Protocol: head values.
use Rattle.std.specs.Prelude.{ℕ, List}

-- what contracts see: the times, in rising order, and how many there is room for
pub record TimesState : Type 0 where
  pub times : List ℕ
  pub width : ℕ
