-- What those above take from here of the definitions of dubp_pow.
pub use Rattle.dubp_pow.specs.Meeting.{Meets}
