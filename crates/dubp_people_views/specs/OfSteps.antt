-- What those above take from here of the definitions of dubp_steps.
pub use Rattle.dubp_registry.specs.OfSteps.{text_cmp, keys_rise}
