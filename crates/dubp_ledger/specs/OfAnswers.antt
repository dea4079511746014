-- What those above take from here of the definitions of dubp_answers.
pub use Rattle.dubp_people_and_money.specs.OfAnswers.{SourceView, view_of}
