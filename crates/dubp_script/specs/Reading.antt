-- How the code reads a command: one word after another is tried at the front of the line. The laws that join it to the spelling
-- stand in the contract of `read_command`.
use Rattle.std.specs.Prelude.{ℕ, true, false, List, codes, Option, Some, None, is_some, nat_eq, option_map, if◌then◌else◌}
use Rattle.std.specs.Option.{option_or}
use Rattle.std.specs.Cmp.Lexicographic.{pointwise}
use Rattle.arrayvec.specs.ArrayVec.{ArrayVec}
use Rattle.dubp_atoms.specs.Letters.{SPACE, is_key, is_uid, is_hash, is_sig}
use Rattle.dubp_atoms.specs.Reading.{◌>>=◌, field, number_of, stamp_of, text_if}
use Rattle.dubp_cond.specs.Reading.{cond_of_text}
use Rattle.dubp_lines.specs.Taking.{named}
use Rattle.dubp_replay.specs.declared.query.Query.{Query}
use Rattle.dubp_replay.specs.declared.query.Query.TheVariants as query
use Rattle.dubp_replay.specs.declared.command.Command.{Command}
use Rattle.dubp_replay.specs.declared.command.Command.TheVariants as command

-- just this word
abbrev pub bare : {A : Type 0} → List ℕ → A → List ℕ → Option A
bare word value line = if pointwise nat_eq line word then Some value else None

unfoldable pub verdict_of : List ℕ → Option Command
verdict_of text =
    field SPACE (text_if is_key) text (λ key rest.
    field SPACE (text_if is_hash) rest (λ hash rest.
    text_if is_sig rest >>= (λ sig. Some (command.Verdict key hash sig))))

unfoldable pub change_of : List ℕ → Option Command
change_of line =
    option_or (option_map command.Block (named (codes "BLOCK ") number_of line))
    (option_or (option_map command.Revert (named (codes "REVERT ") number_of line))
    (option_or (option_map command.Offer (named (codes "OFFER ") number_of line))
    (option_or (option_map command.Switch (named (codes "SWITCH ") stamp_of line))
    (option_map command.Forget (named (codes "FORGET ") stamp_of line)))))

-- the text of a condition
unfoldable pub cond_text_if : List ℕ → Option (ArrayVec ℕ)
cond_text_if text = if is_some (cond_of_text text) then Some (record { items = text }) else None

-- what is said of the choice of a branch
unfoldable pub choice_of : List ℕ → Option Command
choice_of line =
    option_or (bare (codes "AUTO ON") (command.Auto true) line)
    (option_or (bare (codes "AUTO OFF") (command.Auto false) line)
    (bare (codes "FAILED") command.Failures line))

-- whose moves are asked for
unfoldable pub statement_of : List ℕ → Option Command
statement_of line = option_map command.Statement (named (codes "STATEMENT ") cond_text_if line)

unfoldable pub forging_of : List ℕ → Option Command
forging_of text =
    field SPACE (text_if is_key) text (λ key rest.
    number_of rest >>= (λ time. Some (command.Forge key time)))

-- what is said of documents that wait
unfoldable pub pending_of : List ℕ → Option Command
pending_of line =
    option_or (option_map command.Pend (named (codes "PEND ") number_of line))
    (option_or (option_map command.Unpend (named (codes "UNPEND ") (text_if is_hash) line))
    (named (codes "FORGE ") forging_of line))

-- what is asked and answered in one line
unfoldable pub one_line_of : List ℕ → Option Query
one_line_of line =
    option_or (bare (codes "HEAD") query.Head line)
    (option_or (bare (codes "MONEY") query.Money line)
    (option_or (option_map query.Identity (named (codes "IDENTITY ") (text_if is_key) line))
    (option_or (option_map query.Uid (named (codes "UID ") (text_if is_uid) line))
    (option_or (option_map query.Balance (named (codes "BALANCE ") cond_text_if line))
    (option_or (option_map query.Distance (named (codes "DISTANCE ") (text_if is_key) line))
    (option_map query.Diff (named (codes "DIFF ") (text_if is_key) line)))))))

-- what is asked and answered in many lines
unfoldable pub many_lines_of : List ℕ → Option Query
many_lines_of line =
    option_or (option_map query.Certs (named (codes "CERTS ") (text_if is_key) line))
    (option_or (option_map query.Sources (named (codes "SOURCES ") cond_text_if line))
    (option_or (option_map query.Records (named (codes "RECORDS ") number_of line))
    (option_map query.Show (named (codes "SHOW ") number_of line))))

abbrev pub asking_of : List ℕ → Option Command
asking_of line = option_or (option_map command.Ask (one_line_of line)) (option_map command.Ask (many_lines_of line))

-- what is said by a command that is no verdict
unfoldable pub other_of : List ℕ → Option Command
other_of line = option_or (change_of line) (option_or (choice_of line) (option_or (statement_of line) (option_or (pending_of line) (asking_of line))))

unfoldable pub command_of : List ℕ → Option Command
command_of line = option_or (named (codes "VERDICT ") verdict_of line) (other_of line)
