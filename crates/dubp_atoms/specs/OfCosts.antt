-- What those above take from here of the definitions of dubp_costs.
pub use Rattle.dubp_costs.specs.declared.no_memory.NoMemory.{NoMemory}
