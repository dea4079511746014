-- What a sink of texts has, when lines are added.
use Rattle.std.specs.Prelude.{ℕ, List}
use Rattle.dubp_atoms.specs.Adding.{Adds}
use Rattle.dubp_lines.specs.Lines.{unlines}

-- whatever text the sink had, it has that text and these lines behind it, each ended by LF
pub record AddsLines {S : Type 0} (has : S → List ℕ → Type 0) (old new : S) (lines : List (List ℕ)) : Type 0 where
  pub added : Adds has old new (unlines lines)
