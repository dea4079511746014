-- Texts that are put behind others. Protocol: money.
use Rattle.std.specs.Prelude.{◌≡◌, List, ◌++◌}
use Rattle.dubp_atoms.specs.Same.{Text}
use Rattle.dubp_chain.specs.Chains.{Chain}
use Rattle.dubp_chain.specs.Money.{made_sources}
use Rattle.dubp_money_steps.specs.Left.{HasTexts, AreSmall}

-- the texts begin with those that there were
abbrev pub Grows : List Text → List Text → Type 0
Grows old new = (more : List Text) × (new ≡ old ++ more)

-- each condition of a source that the chain made is one of the texts, and what it made is in the bounds of a row
pub record Fits (texts : List Text) (c : Chain) : Type 0 where
  pub has : HasTexts texts (made_sources c)
  pub small : AreSmall c
