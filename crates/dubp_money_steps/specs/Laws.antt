-- The laws on the money of a chain with one block more. Protocol: money.
use Rattle.std.specs.Prelude.{◌≡◌, ℕ, ◌+◌, ◌*◌, ◌^◌, ◌<◌, ◌≤◌, ◌==◌, false, List, ◌∷◌, ◌++◌, length, sum_by}
use Rattle.std.specs.List.{list_any, AllByRecursion}
use Rattle.dubp_atoms.specs.Same.{Text}
use Rattle.dubp_block.specs.declared.block.Block.{Block}
use Rattle.dubp_block.specs.Text.{IsBlock}
use Rattle.dubp_chain.specs.Chains.{Chain}
use Rattle.dubp_chain.specs.Money.{made_by, made_sources, unspent, unspent_units, units_of}
use Rattle.dubp_laws.specs.OfValidity.{IsSound, IsShort}
use Rattle.dubp_moving.specs.States.{states}
use Rattle.dubp_sindex.specs.Rows.{Entry, AreRows, of_account}
use Rattle.dubp_money_steps.specs.Steps as steps
use Rattle.dubp_money_steps.specs.Steps.{rest}
use Rattle.dubp_money_steps.specs.Left as left
use Rattle.dubp_money_steps.specs.Left.{HasTexts, IsSmall, AreSmall, most_made, sources_left, sources_before_clearing}
use Rattle.dubp_money_steps.specs.Clearing as clearing
use Rattle.dubp_money_steps.specs.Clearing.{kept, HasEnough, OthersHave}

-- ---- one block more

abbrev pub ClearsByBalance : Type 0
ClearsByBalance = (c : Chain) (b : Block) → IsSound (b ∷ c) → steps.ClearsByBalance c b

abbrev pub LimitStays : Type 0
LimitStays = (c : Chain) (b : Block) → steps.LimitStays c b

abbrev pub TotalsGoOn : Type 0
TotalsGoOn = (c : Chain) (b : Block) → IsSound (b ∷ c) → steps.TotalsGoOn c b

abbrev pub TransactionsGoOn : Type 0
TransactionsGoOn = (c : Chain) (b : Block) → steps.TransactionsGoOn c b

abbrev pub SpendsAndMakes : Type 0
SpendsAndMakes = (c : Chain) (b : Block) → IsSound (b ∷ c) → steps.SpendsAndMakes c b

-- ---- the rows

-- they are rows of the index, on the chain and before clearing
abbrev pub SourcesAreRows : Type 0
SourcesAreRows = (texts : List Text) (c : Chain) → IsSound c → AreSmall c → AreRows (sources_left texts c)

abbrev pub SourcesAreRowsBeforeClearing : Type 0
SourcesAreRowsBeforeClearing = (texts : List Text) (c : Chain) (b : Block) → IsSound (b ∷ c) → AreSmall (b ∷ c) → AreRows (sources_before_clearing texts c b)

-- what a block makes is in its bounds
abbrev pub MadeAreSmall : Type 0
MadeAreSmall = (c : Chain) (b : Block) → IsSound (b ∷ c) → IsBlock b → AllByRecursion IsSmall (made_by c b)

-- ---- how many and how much

-- with a block more, whose text is no longer than that of a block may be, the chain made at most so many sources a block
abbrev pub MadeStayFew : Type 0
MadeStayFew = (c : Chain) (b : Block) → IsSound (b ∷ c) → IsShort b → length (made_sources c) ≤ most_made * length c → length (made_sources (b ∷ c)) ≤ most_made * length (b ∷ c)

-- so each has a place below 2^63 in the order of making
abbrev pub PlacesAreThere : Type 0
PlacesAreThere = (c : Chain) → IsSound c → AreSmall c → length (made_sources c) < 2 ^ 63

-- what is unspent and all that such a block makes has units of 128 bits
abbrev pub UnitsFit : Type 0
UnitsFit = (c : Chain) (b : Block) → IsSound (b ∷ c) → IsBlock b → IsShort b → unspent_units c + sum_by units_of (made_by c b) < 2 ^ 128

-- ---- rows and definitions

-- the row of each source is that of the definition
abbrev pub RowsAreAt : Type 0
RowsAreAt = (texts : List Text) (c : Chain) → left.RowsAreAt texts c

-- more texts change no row of a source whose condition has a number
abbrev pub SourcesStay : Type 0
SourcesStay = (texts more : List Text) (c : Chain) → HasTexts texts (unspent c) → sources_left (texts ++ more) c ≡ sources_left texts c

-- and so no state, where each condition that was ever made has a number
abbrev pub StatesStay : Type 0
StatesStay =
    (texts more : List Text) (c : Chain) → HasTexts texts (made_sources c) → states (sources_left (texts ++ more)) c ≡ states (sources_left texts) c

-- ---- clearing

abbrev pub ClearsRows : Type 0
ClearsRows = (texts : List Text) (c : Chain) (b : Block) → IsSound (b ∷ c) → HasTexts texts (rest c b) → clearing.ClearsRows texts c b

-- what clearing leaves has enough
abbrev pub KeptHaveEnough : Type 0
KeptHaveEnough = (limit : ℕ) (rows : List Entry) → HasEnough limit (kept limit rows)

-- so, where the limit has not risen, only accounts whose rows have changed can have too little
abbrev pub OthersHaveEnough : Type 0
OthersHaveEnough =
    (limit : ℕ) (accounts : List ℕ) (before rows : List Entry) → HasEnough limit before
    → ((a : ℕ) → list_any (λ t. t == a) accounts ≡ false → of_account a rows ≡ of_account a before)
    → OthersHave limit accounts rows
