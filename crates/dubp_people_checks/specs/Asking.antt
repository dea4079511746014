-- A block that stands to be judged on the people of a chain, with what it changes there. Protocol: rules; people.
use Rattle.dubp_chain.specs.Chains.{Chain}
use Rattle.dubp_people_checks.specs.OfLeft.{IsAsked}
use Rattle.dubp_people_after.specs.OfRegistry.registry_tables_block as tables
use Rattle.dubp_people_after.specs.contracts.after.AfterWithBlock.TheImpl as looks
use Rattle.dubp_people_checks.specs.declared.asked.Asked.{Asked}

-- the registry is that of the chain, the block stands to be judged on it, and the people with the block are those of the chain with it
pub record IsAskedOf (k : Asked) (c : Chain) : Type 0 where
  pub at : (tables.ghosts).at k.registry.now c
  pub asked : IsAsked c k.block.now k.next.now
  pub shown : (looks.ghosts).after k.after.now c k.block.now
