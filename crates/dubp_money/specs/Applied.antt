-- A block that may be written behind a chain, whom it pays, and its records of money. Protocol: chains; rules; records.
use Rattle.std.specs.Prelude.{◌≡◌, ℕ, List, ◌∷◌, ◌++◌, length, Some, IfSome}
use Rattle.std.specs.List.{flat_map}
use Rattle.dubp_atoms.specs.Same.{Text}
use Rattle.dubp_block.specs.declared.block.Block.{Block}
use Rattle.dubp_block.specs.Text.{IsBlock}
use Rattle.dubp_chain.specs.declared.head.Head.{Head}
use Rattle.dubp_chain.specs.Chains.{Chain}
use Rattle.dubp_chain.specs.Heads.{head_of}
use Rattle.dubp_chain.specs.Members.{members}
use Rattle.dubp_chain.specs.Money.{made_sources}
use Rattle.dubp_validity.specs.Rules.{IsSound, IsShort}
use Rattle.dubp_validity.specs.declared.record.Record.{Record}
use Rattle.dubp_validity.specs.Records.{transaction_records, dividend_records, clearing_records}

-- it keeps on the chain each rule that reads no verdict, and this is the head of the chain with it
pub record IsApplied (c : Chain) (b : Block) (h : Head) : Type 0 where
  pub sound : IsSound (b ∷ c)
  pub block : IsBlock b
  pub short : IsShort b
  pub head : head_of (b ∷ c) ≡ Some h

-- where the head pays a dividend, these are the members of its chain
abbrev pub ArePaid : Chain → Head → List Text → Type 0
ArePaid c h keys = IfSome h.ud (λ amount. keys ≡ members c)

-- all that is known where b is written behind c, which made so many sources
pub record Follows (c : Chain) (b : Block) (h : Head) (keys : List Text) (made : ℕ) : Type 0 where
  pub applied : IsApplied c b h
  pub pays : ArePaid (b ∷ c) h keys
  pub behind : made ≡ length (made_sources c)

-- the records of money of b on c, in order: the last of all that it writes
abbrev pub money_records : Chain → Block → List Record
money_records c b = flat_map (transaction_records c b) b.transactions ++ (dividend_records c b ++ clearing_records c b)
