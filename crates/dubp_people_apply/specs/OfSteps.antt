-- What those above take from here of the definitions of dubp_steps.
pub use Rattle.dubp_steps.specs.Steps.{people_records, touches}
pub use Rattle.dubp_steps.specs.Taken.{kicked_by}
pub use Rattle.dubp_steps.specs.Loops.{kicked_record}
