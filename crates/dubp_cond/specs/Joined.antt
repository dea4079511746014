-- Texts with a word between each two. Protocol: spellings.
use Rattle.std.specs.Prelude.{ℕ, List, [], ◌∷◌, ◌++◌}

abbrev pub joined : List ℕ → List (List ℕ) → List ℕ
joined word [] = []
joined word (t ∷ []) = t
joined word (t ∷ u ∷ ts) = t ++ (word ++ joined word (u ∷ ts))
