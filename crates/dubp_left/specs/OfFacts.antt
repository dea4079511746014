-- What those above take from here of the definitions of dubp_facts.
pub use Rattle.dubp_facts.specs.OfValidity.{IsSound}
pub use Rattle.dubp_facts.specs.Facts.{first_at, time_at, block_time, IsNext}
pub use Rattle.dubp_facts.specs.declared.facts.BlockTime.{BlockTime}
pub use Rattle.dubp_facts.specs.declared.facts.First.{First}
pub use Rattle.dubp_facts.specs.contracts.facts.FactsTablesBlock.TheImpl as facts_tables_block
