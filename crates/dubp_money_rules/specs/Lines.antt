-- What the rules on money say of one transaction, for the functions that serve them. `next` is what the chain with the block has.
-- Protocol: rules; money.
use Rattle.std.specs.Prelude.{◌≡◌, Bool, true, ℕ, ◌≤◌, IsTrue, not, List, map}
use Rattle.std.specs.List.{AllByRecursion}
use Rattle.dubp_atoms.specs.Same.{Text}
use Rattle.dubp_cond.specs.declared.tx.Tx.{Tx}
use Rattle.dubp_docs.specs.declared.hashing.TxHashes.{TxHashes}
use Rattle.dubp_block.specs.declared.block.Block.{Block}
use Rattle.dubp_chain.specs.Words.{each_once}
use Rattle.dubp_chain.specs.Chains.{Chain}
use Rattle.dubp_chain.specs.Made.{made}
use Rattle.dubp_chain.specs.Tables.{has_transaction}
use Rattle.dubp_validity.specs.PeopleRules.{IsInWindow}
use Rattle.dubp_validity.specs.MoneyRules.{tx_window}
use Rattle.dubp_left.specs.declared.next.Next.{Next}

-- no output has a greater base
abbrev pub HasBases : ℕ → Tx → Type 0
HasBases base tx = AllByRecursion (λ output. output.base ≤ base) tx.outputs

abbrev pub IsTxInTime : Chain → Block → Next → Tx → Type 0
IsTxInTime c b next tx = IsInWindow next.time tx_window (made c b tx.stamp)

-- the hashes by which transactions are named
abbrev pub whole_hashes : List TxHashes → List Text
whole_hashes hashes = map (λ h. h.whole) hashes

-- no transaction of the chain has this hash
abbrev pub IsHashNew : Chain → TxHashes → Type 0
IsHashNew c h = IsTrue (not (has_transaction c h.whole))

-- the keys are the values, none of which stands twice
pub record IsSetOf {X : Type 0} (eq : X → X → Bool) (keys values : List X) : Type 0 where
  pub are : keys ≡ values
  pub once : each_once eq values ≡ true
