use Rattle.std.proofs.Common.{subst, sym}
use Rattle.dubp_entries.specs.Asking.{ShowsQuestion}
use Rattle.dubp_entries.proofs.Questions.{told_shows, long_line_shows}
use Rattle.dubp_entries.proofs.asking.is_question.Goals as goal

pub returns-in-LongLine : goal.returns-in-LongLine
returns-in-LongLine c = λ is. subst ShowsQuestion (sym c.in-LongLine.is) long_line_shows

pub returns-in-Line : goal.returns-in-Line
returns-in-Line c = λ is. subst ShowsQuestion (sym c.in-Line.is) (told_shows c.in-Line.line c.begins_change.result c.begins_change.ensures is)
