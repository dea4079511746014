-- What the blocks of a chain left behind, block by block. Protocol: records.
use Rattle.std.specs.Prelude.{◌≡◌, ◌≤◌, ℕ, List, [], ◌∷◌, length, take, Option, Some, None, ⊤}
use Rattle.std.specs.List.{AllByRecursion}
pub use Rattle.dubp_people_and_money.specs.OfValidity.{IsShort}
use Rattle.dubp_chain.specs.Chains.{Chain}
use Rattle.dubp_people_and_money.specs.OfKept.{KeptChain, Out}
use Rattle.dubp_people_and_money.specs.OfKept.{left_behind}
use Rattle.dubp_people_and_money.specs.OfKept.{LeftBehind}

-- of the blocks that stand, and of those that are held, both newest first; for how many there is room without memory, and for how many
-- that are held
pub record TracesState : Type 0 where
  pub standing : List LeftBehind
  pub held : List LeftBehind
  pub room : ℕ
  pub space : ℕ

-- what each block of the chain left behind, newest first
abbrev pub traces_of : Chain → List LeftBehind
traces_of [] = []
traces_of (b ∷ c) = left_behind c b ∷ traces_of c

-- while blocks are held: what they left behind, with room for all blocks of the chain before, each of which is short
abbrev pub AreHeld : TracesState → Option Out → Type 0
AreHeld t None = ⊤
AreHeld t (Some o) = (t.held ≡ take o.taken (traces_of o.chain)) × (length o.chain ≤ t.room) × AllByRecursion IsShort o.chain

-- the traces are those of the blocks that are kept, each of which is short
pub record AreTraces (t : TracesState) (s : KeptChain) : Type 0 where
  pub standing : t.standing ≡ traces_of s.chain
  pub held : AreHeld t s.out
  pub short : AllByRecursion IsShort s.chain
