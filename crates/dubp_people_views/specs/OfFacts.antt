-- What those above take from here of the definitions of dubp_facts.
pub use Rattle.dubp_registry.specs.OfFacts.{First, first_at}
pub use Rattle.dubp_registry.specs.OfFacts.facts_tables_block as facts_tables_block
