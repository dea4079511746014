-- The commands behind whose lines a frame follows. Protocol: the input; commands and answers.
use Rattle.std.specs.Prelude.{ℕ, List, Option, codes, option_map}
use Rattle.std.specs.Option.{option_or}
use Rattle.dubp_atoms.specs.Reading.{number_of}
use Rattle.dubp_lines.specs.Taking.{named}
use Rattle.dubp_replay.specs.declared.command.Command.{Command}
use Rattle.dubp_replay.specs.declared.command.Command.TheVariants as command
use Rattle.dubp_script.specs.declared.framed.Framed.{Framed}
use Rattle.dubp_script.specs.declared.framed.Framed.TheVariants as framed

abbrev pub framed_command : Framed → Command
framed_command (framed.Block len) = command.Block len
framed_command (framed.Offer len) = command.Offer len
framed_command (framed.Pend len) = command.Pend len

abbrev pub framed_len : Framed → ℕ
framed_len (framed.Block len) = len
framed_len (framed.Offer len) = len
framed_len (framed.Pend len) = len

-- what is read of a line
unfoldable pub framed_of : List ℕ → Option Framed
framed_of line =
    option_or (option_map framed.Block (named (codes "BLOCK ") number_of line))
    (option_or (option_map framed.Offer (named (codes "OFFER ") number_of line))
    (option_map framed.Pend (named (codes "PEND ") number_of line)))
