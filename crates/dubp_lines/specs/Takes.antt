-- Which lines stand between two places of a text.
use Rattle.std.specs.Prelude.{◌≡◌, ℕ, List, ◌∷◌, ◌++◌}
use Rattle.dubp_lines.specs.Lines.{Place}

-- between the places stand these lines
pub record Spans (p : Place) (between : List (List ℕ)) (q : Place) : Type 0 where
  pub lines : p.0 ≡ between ++ q.0
  pub tail : p.1 ≡ q.1

-- between the places stands this line
pub record Takes (p : Place) (line : List ℕ) (q : Place) : Type 0 where
  pub lines : p.0 ≡ line ∷ q.0
  pub tail : p.1 ≡ q.1
