use Rattle.dubp_lines.proofs.Split.{is_split, no_lines}
use Rattle.dubp_lines.proofs.lines.next_line.Goals as goal

pub returns-clause-some : goal.returns-clause-some
returns-clause-some c = is_split c.args.text.now c.cut_line.result (λ b. b.now) c.cut_line.ensures.found

pub returns-clause-none : goal.returns-clause-none
returns-clause-none c = no_lines c.args.text.now c.cut_line.result c.cut_line.ensures.none
