-- The lines of the records of a block. Protocol: records; commands and answers.
use Rattle.std.specs.Prelude.{ℕ, List, map}
use Rattle.std.specs.List.{flat_map}
use Rattle.dubp_validity.specs.declared.record.Record.{Record}
use Rattle.dubp_validity.specs.Records.{record_text}
use Rattle.dubp_replay.specs.Answers.{answer_line}

abbrev pub record_line : Record → List ℕ
record_line r = answer_line (record_text r)

-- the lines of these records, one behind the other
abbrev pub record_lines : List Record → List ℕ
record_lines rows = flat_map (λ line. line) (map record_line rows)
