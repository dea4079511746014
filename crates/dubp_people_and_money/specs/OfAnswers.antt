-- What those above take from here of the definitions of dubp_answers.
pub use Rattle.dubp_answers.specs.SourceLines.{view_of}
pub use Rattle.dubp_answers.specs.declared.source_lines.SourceView.{SourceView}
