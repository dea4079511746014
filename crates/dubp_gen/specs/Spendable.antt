-- Which sources can be spent, by their numbers: a key or a hash is in range by its type. Protocol: the generator.
use Rattle.std.specs.Prelude.{ℕ, ◌≤◌}
use Rattle.dubp_atoms.specs.Spelling.{IsNumber}
use Rattle.dubp_cond.specs.declared.source.SourceId.{SourceId}
use Rattle.dubp_cond.specs.declared.source.SourceId.TheVariants.{D, T}
use Rattle.dubp_cond.specs.declared.source.Input.{Input}

-- the number in the name of a source: of the block, or of the output
abbrev pub place_in : SourceId → ℕ
place_in (D key block) = block
place_in (T tx index) = index

-- the numbers are in range, and the amount is at least 1
pub record IsWorth (source : Input) : Type 0 where
  pub some : 1 ≤ source.amount
  pub amount : IsNumber source.amount
  pub base : source.base ≤ 15
  pub place : IsNumber (place_in source.source)
