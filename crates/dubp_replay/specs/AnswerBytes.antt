-- The bytes of an answer.
use Rattle.std.specs.Prelude.{ℕ, List}
use Rattle.dubp_replay.specs.declared.answer.Answer.{Answer}
use Rattle.dubp_replay.specs.declared.answer.Answer.TheVariants.{One, Many}

abbrev pub answer_bytes : Answer → List ℕ
answer_bytes (One line) = line.items
answer_bytes (Many lines) = lines.items
