-- What those above take from here of the definitions of dubp_steps.
pub use Rattle.dubp_people_apply.specs.OfSteps.{people_records}
