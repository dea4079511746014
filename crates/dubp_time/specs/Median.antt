-- The median of a list of times, in whatever order the list is.
--
-- Were the n times put into rising order, counted from 0, the middle two would stand at (n − 1) / 2 and at
-- n / 2, which are one place where n is odd. The median is the mean of the two, rounded down. Which time
-- would stand at a place is said by counting, so nothing here puts a list into order.
use Rattle.std.specs.Prelude.{◌≡◌, ℕ, ◌+◌, ◌-◌, ◌/◌, Bool, ◌&&◌, ◌==◌, List, [], ◌∷◌, Option, Some, None, length, count_by, find, unwrap_or, nat_lt, nat_le}

-- how many of the times are m, below m, and at most m
abbrev pub count_of : ℕ → List ℕ → ℕ
count_of m times = count_by (λ t. t == m) times

abbrev pub count_below : ℕ → List ℕ → ℕ
count_below m times = count_by (λ t. nat_lt t m) times

abbrev pub count_up_to : ℕ → List ℕ → ℕ
count_up_to m times = count_by (λ t. nat_le t m) times

-- whether m would stand at place j: at most j times are below it, and more than j are at most m
abbrev pub has_rank : List ℕ → ℕ → ℕ → Bool
has_rank times j m = nat_le (count_below m times) j && nat_lt j (count_up_to m times)

-- the time that would stand at place j
abbrev pub ranked : List ℕ → ℕ → ℕ
ranked times j = unwrap_or (find (has_rank times j) times) 0

-- the mean of the middle two, rounded down
abbrev pub mean_of_middle : List ℕ → ℕ
mean_of_middle times = (ranked times ((length times - 1) / 2) + ranked times (length times / 2)) / 2

-- the median, where there is a time
abbrev pub median_of : List ℕ → Option ℕ
median_of [] = None
median_of (t ∷ times) = Some (mean_of_middle (t ∷ times))

-- the same times, each as often
pub record SameTimes (xs ys : List ℕ) : Type 0 where
  pub each : (m : ℕ) → count_of m xs ≡ count_of m ys
