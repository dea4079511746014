-- What a checked block is, given what it means that a rule is the first that it breaks.
use Rattle.std.specs.Prelude.{◌≡◌, Option, None, Some}
use Rattle.dubp_block.specs.declared.block.Block.{Block}
use Rattle.dubp_block.specs.Text.{block_hash_of}
use Rattle.dubp_rules.specs.declared.rule.Rule.{Rule}
use Rattle.dubp_local.specs.declared.check.Checked.{Checked}
use Rattle.dubp_local.specs.declared.check.Checked.TheVariants.{Breaks, Keeps}
use Rattle.dubp_local.specs.declared.check.MadeHashes.{MadeHashes}
use Rattle.dubp_local.specs.Local.{all_hashes}

-- those of its transactions, and its own
abbrev pub made_hashes : Block → MadeHashes
made_hashes b = record { transactions = all_hashes b; block = block_hash_of b }

-- the rule is the first; or there is none, and these are the hashes of the block
abbrev pub IsChecked : (Option Rule → Type 0) → Block → Checked → Type 0
IsChecked IsFirst b (Breaks rule) = IsFirst (Some rule)
IsChecked IsFirst b (Keeps hashes) = IsFirst None × (hashes ≡ made_hashes b)

abbrev pub broken_rule : Checked → Option Rule
broken_rule (Breaks rule) = Some rule
broken_rule (Keeps hashes) = None
