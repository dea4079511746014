-- Clearing over rows: which accounts have too little, and what is left and taken when all that have are cleared. Protocol: money, records.
use Rattle.std.specs.Prelude.{◌≡◌, ℕ, ◌≤◌, ◌==◌, Bool, not, List, ◌∷◌, filter, map, nat_lt, IsTrue, ◌⊎◌}
use Rattle.std.specs.List.{list_any, AllByRecursion}
use Rattle.dubp_atoms.specs.Same.{Text}
use Rattle.dubp_block.specs.declared.block.Block.{Block}
use Rattle.dubp_chain.specs.Chains.{Chain}
use Rattle.dubp_laws.specs.OfValidity.{Record}
use Rattle.dubp_laws.specs.OfValidity.{Clear}
use Rattle.dubp_laws.specs.OfValidity.{clearing_records}
use Rattle.dubp_sindex.specs.Rows.{Entry, units_in}
use Rattle.dubp_money_steps.specs.Steps.{limit_of}
use Rattle.dubp_money_steps.specs.Left.{sources_left, sources_before_clearing}

-- the account of the row has, over these rows, less than the limit
abbrev pub has_little : ℕ → List Entry → Entry → Bool
has_little limit rows e = nat_lt (units_in e.1.account rows) limit

-- what clearing leaves, and what it takes, in the order of making
abbrev pub kept : ℕ → List Entry → List Entry
kept limit rows = filter (λ e. not (has_little limit rows e)) rows

abbrev pub taken : ℕ → List Entry → List Entry
taken limit rows = filter (has_little limit rows) rows

-- no account of these rows has less than the limit
pub record HasEnough (limit : ℕ) (rows : List Entry) : Type 0 where
  pub each : AllByRecursion (λ e. limit ≤ units_in e.1.account rows) rows

-- each account that is not among these has the limit
abbrev pub OthersHave : ℕ → List ℕ → List Entry → Type 0
OthersHave limit accounts rows = AllByRecursion (λ e. IsTrue (list_any (λ a. a == e.1.account) accounts) ⊎ (limit ≤ units_in e.1.account rows)) rows

abbrev pub clear_record : Entry → Record
clear_record e = Clear (record { amount = e.1.amount; base = e.1.base; source = e.0 })

-- Clearing the rows by balances leaves the rows of the chain with b, and takes those of the records, in their order.
pub record ClearsRows (texts : List Text) (c : Chain) (b : Block) : Type 0 where
  pub left : kept (limit_of (b ∷ c)) (sources_before_clearing texts c b) ≡ sources_left texts (b ∷ c)
  pub taken : map clear_record (taken (limit_of (b ∷ c)) (sources_before_clearing texts c b)) ≡ clearing_records c b
