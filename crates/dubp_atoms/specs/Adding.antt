-- What a sink of texts has, when a piece is added. A sink that has a text is named by a relation, since a hash does not tell its
-- text. Protocol: spellings.
use Rattle.std.specs.Prelude.{ℕ, List, ◌++◌}

-- whatever text the sink had, it has that text and the piece behind it
pub record Adds {S : Type 0} (has : S → List ℕ → Type 0) (old new : S) (piece : List ℕ) : Type 0 where
  pub goes_on : (text : List ℕ) → has old text → has new (text ++ piece)

-- whatever text the sink had, it still has
pub record Stays {S : Type 0} (has : S → List ℕ → Type 0) (old new : S) : Type 0 where
  pub still : (text : List ℕ) → has old text → has new text
