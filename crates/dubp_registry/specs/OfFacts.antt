-- What those above take from here of the definitions of dubp_facts.
pub use Rattle.dubp_left.specs.OfFacts.{BlockTime, IsNext, First, first_at, time_at, block_time}
pub use Rattle.dubp_left.specs.OfFacts.facts_tables_block as facts_tables_block
