-- The bytes that conditions and unlocks use beside the separators of all texts. Protocol: conditions.
use Rattle.std.specs.Prelude.{ℕ}

-- `(` and `)`
abbrev pub LEFT_PARENTHESIS : ℕ
LEFT_PARENTHESIS = 40

abbrev pub RIGHT_PARENTHESIS : ℕ
RIGHT_PARENTHESIS = 41

-- `!` and `~`, the first and the last printable character that is no space
abbrev pub EXCLAMATION_MARK : ℕ
EXCLAMATION_MARK = 33

abbrev pub TILDE : ℕ
TILDE = 126
