-- Entries that change nothing, whatever the state: what they ask is told, and no more. Protocol: commands and answers.
use Rattle.std.specs.Prelude.{ℕ, Bool, ◌||◌, List, Some, ⊤, codes, nat_eq}
use Rattle.std.specs.List.{starts_with}
use Rattle.dubp_replay.specs.declared.command.Command.{Command}
use Rattle.dubp_replay.specs.declared.command.Command.TheVariants as command
use Rattle.dubp_entries.specs.Entries.{Entry, IsWhole, Means}
use Rattle.dubp_entries.specs.Reading.{Shows}
use Rattle.dubp_entries.specs.declared.item.Item.{Item}

-- the command only asks
abbrev pub IsQuestion : Command → Type 0
IsQuestion (command.Statement cond) = ⊤
IsQuestion command.Failures = ⊤
IsQuestion (command.Forge key time) = ⊤
IsQuestion (command.Ask q) = ⊤
IsQuestion other = ⊥

-- the entry is no command, or one that only asks
abbrev pub OnlyAsks : Entry → Type 0
OnlyAsks entry = (c : Command) (frame : List ℕ) → Means entry (Some (c, frame)) → IsQuestion c

-- so is each entry that the item may show
abbrev pub ShowsQuestion : Item → Type 0
ShowsQuestion item = (entry : Entry) → IsWhole entry → Shows item entry → OnlyAsks entry

abbrev pub begins : List ℕ → List ℕ → Bool
begins word line = starts_with nat_eq line word

-- the line begins with the word of a command that may change the state, and that no frame follows
abbrev pub begins_change : List ℕ → Bool
begins_change line =
    begins (codes "VERDICT ") line || begins (codes "REVERT ") line || begins (codes "SWITCH ") line
    || begins (codes "FORGET ") line || begins (codes "AUTO ") line || begins (codes "UNPEND ") line
