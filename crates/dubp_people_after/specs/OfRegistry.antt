-- What those above take from here of the definitions of dubp_registry.
pub use Rattle.dubp_registry.specs.contracts.registry.RegistryTablesBlock.TheImpl as registry_tables_block
