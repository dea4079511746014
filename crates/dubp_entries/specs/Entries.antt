-- The entries of the input, by the bytes that they take there: lines, and frames behind the lines that head them; and which command
-- an entry is. Protocol: the input.
use Rattle.std.specs.Prelude.{◌≡◌, ◌≢◌, ◌⊎◌, ℕ, ◌<◌, ◌≤◌, List, [], ◌∷◌, ◌++◌, length, Some, None}
use Rattle.dubp_atoms.specs.Letters.{LF}
use Rattle.dubp_replay.specs.declared.command.Command.{Command}
use Rattle.dubp_replay.specs.Turns.{Asked, frame_of}
use Rattle.dubp_script.specs.Spelling.{Says}

-- the longest line that is read
abbrev pub longest_line : ℕ
longest_line = 4096

-- bytes that stand on one line
abbrev pub IsText : List ℕ → Type 0
IsText [] = Unit {0}
IsText (b ∷ bs) = (b ≢ LF) × IsText bs

-- the line is a command, behind which so many raw bytes stand
pub record HeadsFrame (line : List ℕ) (len : ℕ) : Type 0 where
  pub command : Command
  pub says : Says line command
  pub frame_is : frame_of command ≡ Some len

-- a line, or a line that heads a frame with its raw bytes and the one byte behind them
pub data Entry : Type 0 where
  Line : List ℕ → Entry
  Frame : List ℕ → List ℕ → ℕ → Entry

-- the bytes that an entry takes
abbrev pub text_of : Entry → List ℕ
text_of (Line text) = text ++ LF ∷ []
text_of (Frame head payload last) = head ++ LF ∷ (payload ++ last ∷ [])

abbrev pub IsWhole : Entry → Type 0
IsWhole (Line text) = IsText text × ((len : ℕ) → HeadsFrame text len → ⊥)
IsWhole (Frame head payload last) = IsText head × HeadsFrame head (length payload)

abbrev pub AllWhole : List Entry → Type 0
AllWhole [] = Unit {0}
AllWhole (entry ∷ entries) = IsWhole entry × AllWhole entries

-- the line is longer than lines are read, or no command
abbrev pub IsBad : List ℕ → Type 0
IsBad line = (longest_line < length line) ⊎ ((command : Command) → Says line command → ⊥)

-- What an entry is: a command with the raw bytes of its frame, or none. A line that is too long is none, and a frame whose last byte
-- is not LF.
abbrev pub Means : Entry → Asked → Type 0
Means (Line text) None = IsBad text
Means (Line text) (Some (command, frame)) = (length text ≤ longest_line) × Says text command × (frame ≡ [])
Means (Frame head payload last) None = last ≢ LF
Means (Frame head payload last) (Some (command, frame)) = (last ≡ LF) × Says head command × (frame ≡ payload)
