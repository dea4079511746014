-- What those above take from here of the definitions of dubp_left.
pub use Rattle.dubp_people_after.specs.OfLeft.{IsAsked, Next}
