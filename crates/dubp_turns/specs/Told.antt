-- The text of an answer: in a line at hand, or put together before.
use Rattle.std.specs.Prelude.{ℕ, List}
use Rattle.dubp_turns.specs.declared.told.Told.{Told}
use Rattle.dubp_turns.specs.declared.told.Told.TheVariants.{InLine, Here}

-- the bytes that an answer has, where these stand in the line at hand
abbrev pub told_text : List ℕ → Told → List ℕ
told_text line InLine = line
told_text line (Here lines) = lines.items
