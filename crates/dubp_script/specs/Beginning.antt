-- The words with which commands begin. Protocol: commands and answers.
use Rattle.std.specs.Prelude.{ℕ, Bool, ◌||◌, List, codes, nat_eq}
use Rattle.std.specs.List.{starts_with}

abbrev begins : List ℕ → List ℕ → Bool
begins word line = starts_with nat_eq line word

-- what asks of the chain
abbrev pub begins_asking : List ℕ → Bool
begins_asking line =
    begins (codes "HEAD") line || begins (codes "MONEY") line || begins (codes "IDENTITY ") line || begins (codes "UID ") line
    || begins (codes "BALANCE ") line || begins (codes "DISTANCE ") line || begins (codes "DIFF ") line || begins (codes "CERTS ") line
    || begins (codes "SOURCES ") line || begins (codes "RECORDS ") line || begins (codes "SHOW ") line || begins (codes "STATEMENT ") line

-- what is said of blocks, verdicts and branches
abbrev pub begins_change : List ℕ → Bool
begins_change line =
    begins (codes "VERDICT ") line || begins (codes "BLOCK ") line || begins (codes "REVERT ") line || begins (codes "OFFER ") line
    || begins (codes "SWITCH ") line || begins (codes "FORGET ") line || begins (codes "AUTO ") line || begins (codes "FAILED") line

-- what is said of documents that wait
abbrev pub begins_pending : List ℕ → Bool
begins_pending line = begins (codes "PEND ") line || begins (codes "UNPEND ") line || begins (codes "FORGE ") line

abbrev pub begins_command : List ℕ → Bool
begins_command line = begins_asking line || begins_change line || begins_pending line
