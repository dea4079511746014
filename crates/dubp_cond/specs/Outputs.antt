-- The one spelling of an OUTPUT line, and which lines have one. Protocol: outputs.
use Rattle.std.specs.Prelude.{ℕ, ◌≤◌, List, ◌∷◌, ◌++◌, decimal}
use Rattle.dubp_atoms.specs.Letters.{COLON}
use Rattle.dubp_atoms.specs.Spelling.{IsNumber}
use Rattle.dubp_cond.specs.Conditions.{cond_text, IsCond}
use Rattle.dubp_cond.specs.declared.output.Output.{Output}

-- OUTPUT: `NUM:BASE:COND`
abbrev pub output_text : Output → List ℕ
output_text o = decimal o.amount ++ COLON ∷ (decimal o.base ++ COLON ∷ cond_text o.cond)

pub record IsOutput (o : Output) : Type 0 where
  pub amount : IsNumber o.amount
  pub base : o.base ≤ 15
  pub cond : IsCond o.cond
