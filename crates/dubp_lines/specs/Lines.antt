-- The lines of a text: only what ends with LF is a line. Protocol: block text.
use Rattle.std.specs.Prelude.{ℕ, ◌==◌, List, [], ◌∷◌, ◌++◌, if◌then◌else◌}
use Rattle.std.specs.List.{flat_map}
use Rattle.dubp_atoms.specs.Letters.{LF}

-- A place in a text: the lines that are left, and what stands behind the last LF.
abbrev pub Place : Type 0
Place = List (List ℕ) × List ℕ

-- the same with a line, whose first bytes are given, before them
abbrev pub lines_from : List ℕ → List ℕ → Place
lines_from line [] = ([], line)
lines_from line (c ∷ cs) =
    if c == LF
    then (line ∷ (lines_from [] cs).0, (lines_from [] cs).1)
    else lines_from (line ++ c ∷ []) cs

unfoldable pub split : List ℕ → Place
split text = lines_from [] text

-- the text of lines
abbrev pub unlines : List (List ℕ) → List ℕ
unlines ls = flat_map (λ l. l ++ LF ∷ []) ls
