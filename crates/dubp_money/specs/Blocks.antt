-- A block that is written behind a chain: what is known of the chain and of the block then. Protocol: money.
use Rattle.std.specs.Prelude.{◌≡◌, ℕ, List, [], ◌∷◌, Option, None, Some, length}
use Rattle.dubp_atoms.specs.Same.{Text}
use Rattle.dubp_block.specs.declared.block.Block.{Block}
use Rattle.dubp_chain.specs.Chains.{Chain}
use Rattle.dubp_chain.specs.Heads.{time_of}
use Rattle.dubp_chain.specs.Money.{Source, made_sources}
use Rattle.dubp_validity.specs.Rules.{IsSound, IsShort}
use Rattle.dubp_money_steps.specs.Steps.{dividends_of, limit_of}
use Rattle.dubp_money.specs.Texts.{Fits}
use Rattle.dubp_money.specs.declared.paying.Payment.{Payment}
use Rattle.dubp_money.specs.Making.{dividends_to}

-- what is paid to these members, where something is
abbrev pub paid : Option Payment → List Text → List Source
paid None keys = []
paid (Some p) keys = dividends_to p keys

-- the block is no longer than one may be; the time of the chain with it, what that pays, and how many sources the chain made
pub record IsWritten (c : Chain) (b : Block) (time : ℕ) (payment : Option Payment) (members : List Text) (made : ℕ) : Type 0 where
  pub sound : IsSound (b ∷ c)
  pub short : IsShort b
  pub at_time : time ≡ time_of (b ∷ c)
  pub pays : paid payment members ≡ dividends_of c b
  pub behind : made ≡ length (made_sources c)

-- the limit is that of the chain with the block, and these texts number its conditions
pub record IsCleared (c : Chain) (b : Block) (limit : ℕ) (texts : List Text) : Type 0 where
  pub sound : IsSound (b ∷ c)
  pub limited : limit ≡ limit_of (b ∷ c)
  pub fits : Fits texts (b ∷ c)
