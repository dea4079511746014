-- The lines of the moves of a condition. Protocol: statements; commands and answers.
use Rattle.std.specs.Prelude.{ℕ, List, map}
use Rattle.std.specs.List.{flat_map}
use Rattle.dubp_replay.specs.Answers.{move_line}
use Rattle.dubp_replay.specs.OfMoves.{Move}

-- the lines of these moves, one behind the other
abbrev pub move_lines : List Move → List ℕ
move_lines moves = flat_map (λ line. line) (map move_line moves)
