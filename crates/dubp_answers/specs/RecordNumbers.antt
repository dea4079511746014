-- Which records have numbers in the ranges of their spellings, and conditions that are no longer than a text of one. Their keys, names and hashes
-- are in range by the types of the code. Protocol: records.
use Rattle.std.specs.Prelude.{ℕ, ◌≤◌, length, ⊤}
use Rattle.dubp_atoms.specs.Spelling.{IsNumber}
use Rattle.dubp_cond.specs.declared.source.SourceId.{SourceId}
use Rattle.dubp_cond.specs.declared.source.SourceId.TheVariants.{D, T}
use Rattle.dubp_cond.specs.declared.source.Input.{Input}
use Rattle.dubp_validity.specs.declared.record.Record.{Record}
use Rattle.dubp_validity.specs.declared.record.Record.TheVariants.{Create, Join, Active, Leave, Cert, Spend, Make, Dividend, Clear}

-- the number in the name of a source: of the block, or of the output
abbrev pub place_in : SourceId → ℕ
place_in (D key block) = block
place_in (T tx index) = index

pub record HasInputNumbers (i : Input) : Type 0 where
  pub amount : IsNumber i.amount
  pub base : i.base ≤ 15
  pub place : IsNumber (place_in i.source)

abbrev pub HasNumbers : Record → Type 0
HasNumbers (Create key uid stamp) = IsNumber stamp.number
HasNumbers (Join key made) = IsNumber made
HasNumbers (Active key made) = IsNumber made
HasNumbers (Leave key made) = IsNumber made
HasNumbers (Cert from to made) = IsNumber made
HasNumbers (Spend input) = HasInputNumbers input
HasNumbers (Make input cond) = HasInputNumbers input × (length cond ≤ 1000)
HasNumbers (Dividend input) = HasInputNumbers input
HasNumbers (Clear input) = HasInputNumbers input
HasNumbers other = ⊤
