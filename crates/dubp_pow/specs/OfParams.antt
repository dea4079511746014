-- What those above take from here of the definitions of dubp_params.
pub use Rattle.dubp_params.specs.Ranges.{IsInRange, greatest_acceleration}
