-- The lines of sources by what is shown of them.
use Rattle.std.proofs.Common.{◌≡◌, List, [], ◌∷◌, map, refl, ap}
use Rattle.dubp_chain.specs.Money.{Source}
use Rattle.dubp_replay.specs.Answers.{source_line}
use Rattle.dubp_answers.specs.SourceLines.{view_line, view_of}

pub lines_shown : (sources : List Source) → map view_line (map view_of sources) ≡ map source_line sources
lines_shown [] = refl
lines_shown (s ∷ sources) = ap (λ l. source_line s ∷ l) (lines_shown sources)
