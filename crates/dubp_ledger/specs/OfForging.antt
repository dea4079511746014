-- What those above take from here of the definitions of dubp_forging.
pub use Rattle.dubp_forging.specs.Filled.{IsFilled}
