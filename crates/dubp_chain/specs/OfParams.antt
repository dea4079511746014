-- What those above take from here of the definitions of dubp_params.
pub use Rattle.dubp_block.specs.OfParams.{Params}
pub use Rattle.dubp_pow.specs.OfParams.{IsInRange, greatest_acceleration}
