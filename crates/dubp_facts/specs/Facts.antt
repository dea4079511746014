-- What a chain tells of itself beside its people and its money: its parameters and its currency, and when its blocks were.
-- Protocol: tables; the time of a stamp.
use Rattle.std.specs.Prelude.{◌≡◌, ℕ, [], ◌∷◌, Option, Some, None, option_map, option_and_then, if◌then◌else◌}
use Rattle.std.specs.Option.{option_or}
use Rattle.std.specs.declared.cmp.Ordering.{Ordering}
use Rattle.std.specs.declared.cmp.Ordering.TheVariants.{Equal}
use Rattle.dubp_atoms.specs.Same.{same_text}
use Rattle.dubp_atoms.specs.declared.stamp.Stamp.{Stamp}
use Rattle.dubp_validity.specs.OfBlock.{Block}
use Rattle.dubp_validity.specs.OfBlock.{IsBlock}
use Rattle.dubp_validity.specs.OfChain.{Head}
use Rattle.dubp_validity.specs.OfChain.{Chain, params, currency}
use Rattle.dubp_validity.specs.OfChain.{head_of}
use Rattle.dubp_validity.specs.OfChain.{head_numbered}
use Rattle.dubp_validity.specs.HeadRules.{NumberIsNext}
use Rattle.dubp_facts.specs.declared.facts.First.{First}
use Rattle.dubp_facts.specs.declared.facts.BlockTime.{BlockTime}

-- the parameters and the currency; of the empty chain there are none
abbrev pub first_at : Chain → Unit {0} → Option First
first_at [] k = None
first_at (b ∷ c) k = Some (record { params = params (b ∷ c); currency = currency (b ∷ c) })

-- a block that has parameters sets them and the currency
abbrev pub first_after : Block → Option First → Option First
first_after b before = option_or (option_map (λ p. record { params = p; currency = b.currency }) b.params) before

-- the order of the one key that they stand under
abbrev pub one : Unit {0} → Unit {0} → Ordering
one _ _ = Equal

-- the hash and the median time of the block of a number
abbrev pub block_time : Head → BlockTime
block_time h = record { hash = h.hash; time = h.median_time }

abbrev pub time_at : Chain → ℕ → Option BlockTime
time_at c number = option_map block_time (head_numbered c number)

-- the time of the block, where its hash is that of the stamp
abbrev pub of_hash : Stamp → BlockTime → Option ℕ
of_hash s at = if same_text s.hash at.hash then Some at.time else None

abbrev pub time_of_stamp : Stamp → Option BlockTime → Option ℕ
time_of_stamp s at = option_and_then (of_hash s) at

-- the block may be written behind the chain: it is in range, it has the next number, and this is its head
pub record IsNext (c : Chain) (b : Block) (h : Head) : Type 0 where
  pub block : IsBlock b
  pub number : NumberIsNext c b
  pub head : head_of (b ∷ c) ≡ Some h
