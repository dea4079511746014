-- What contracts see of a window, and what always holds of one.
use Rattle.std.specs.Prelude.{ℕ, ◌≤◌, List, length}
use Rattle.std.specs.List.Sorted.{IsNonDecreasing}

-- the times of a window, in rising order, how many times it has room for, and how many fit the memory that it took: a call
-- that takes no memory leaves that number as it was
pub record Contents : Type 0 where
  pub times : List ℕ
  pub room : ℕ
  pub capacity : ℕ

-- the times are in rising order, there is room for them, and the memory for as many was taken
pub record IsLawful (times : List ℕ) (room capacity : ℕ) : Type 0 where
  pub rising : IsNonDecreasing times
  pub fits : length times ≤ room
  pub taken : room ≤ capacity
