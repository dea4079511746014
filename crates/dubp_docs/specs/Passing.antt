-- How the code passes over a transaction without memory: it reads as in `Reading`, and of each list keeps only how many values it
-- has.
use Rattle.std.specs.Prelude.{ℕ, List, length, codes, Result, Ok, Err}
use Rattle.dubp_atoms.specs.Letters.{is_key}
use Rattle.dubp_atoms.specs.Reading.{text_if, number_of, stamp_of}
use Rattle.dubp_lines.specs.Lines.{Place}
use Rattle.dubp_lines.specs.Taking.{◌>>=◌}
use Rattle.dubp_cond.specs.ReadingLines.{input_of, unlock_line_of, output_of}
use Rattle.dubp_cond.specs.Transactions.{is_comment}
use Rattle.dubp_docs.specs.Reading.{named_line, opening_at, list_at, sigs_at}

-- how many values there are
abbrev pub counted : {A : Type 0} → Result (List A × Place) ℕ → Result (ℕ × Place) ℕ
counted (Ok x) = Ok (length x.0, x.1)
counted (Err left) = Err left

-- how many issuers a transaction has
unfoldable pub passed_at : Place → Result (ℕ × Place) ℕ
passed_at p = do
  currency ← opening_at (codes "Type: Transaction") p
  stamp ← named_line stamp_of (codes "Blockstamp: ") currency.1
  locktime ← named_line number_of (codes "Locktime: ") stamp.1
  issuers ← counted (list_at (text_if is_key) (codes "Issuers:") locktime.1)
  inputs ← counted (list_at input_of (codes "Inputs:") issuers.1)
  unlocks ← counted (list_at unlock_line_of (codes "Unlocks:") inputs.1)
  outputs ← counted (list_at output_of (codes "Outputs:") unlocks.1)
  comment ← named_line (text_if is_comment) (codes "Comment: ") outputs.1
  counted (sigs_at issuers.0 comment.1)
