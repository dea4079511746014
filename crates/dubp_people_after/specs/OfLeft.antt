-- What those above take from here of the definitions of dubp_left.
pub use Rattle.dubp_registry.specs.OfLeft.{queue_left, IsAsked, Next}
