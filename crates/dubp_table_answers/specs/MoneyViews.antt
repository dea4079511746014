-- What is shown of the row of an unspent source in the index. Protocol: commands and answers.
use Rattle.dubp_sindex.specs.Rows.{Entry}
use Rattle.dubp_answers.specs.declared.source_lines.SourceView.{SourceView}

abbrev pub row_view : Entry → SourceView
row_view e = record { amount = e.1.amount; base = e.1.base; source = e.0 }
