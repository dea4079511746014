use Rattle.dubp_entries.proofs.Lines.{line_found}
use Rattle.dubp_entries.proofs.reading.line_end.Goals as goal

pub returns : goal.returns
returns c = line_found _ _ c.memchr.ensures
