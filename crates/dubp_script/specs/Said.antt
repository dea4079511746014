-- What the parts of a line are as parts of a command: the code keeps them small until the command is made.
use Rattle.std.specs.Prelude.{ℕ, List}
use Rattle.std.specs.Borrow.{Bor}
use Rattle.arrayvec.specs.ArrayVec.{ArrayVec}
use Rattle.dubp_replay.specs.declared.command.Command.{Command}
use Rattle.dubp_replay.specs.declared.command.Command.TheVariants as command
use Rattle.dubp_script.specs.declared.words.SaidVerdict.{SaidVerdict}
use Rattle.dubp_script.specs.declared.words.SaidForging.{SaidForging}

-- the text of a condition
abbrev pub kept_text : Bor (List ℕ) → ArrayVec ℕ
kept_text text = record { items = text.now }

-- a verdict
abbrev pub said : SaidVerdict → Command
said v = command.Verdict v.key v.hash v.sig

-- who forges, and when
abbrev pub said_forging : SaidForging → Command
said_forging f = command.Forge f.key f.time
