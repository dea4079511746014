use Rattle.std.proofs.Common.{ap, ◌∙◌}
use Rattle.dubp_cond.specs.Conditions.{cond_text}
use Rattle.dubp_cond.proofs.Spellings.{text_of_spelled}
use Rattle.dubp_cond.proofs.spelled.SpelledCond.as_text.Goals as goal

pub returns-clause-text : goal.returns-clause-text
returns-clause-text c = c.as_slice.ensures ∙ text_of_spelled c.self.inside.text c.self.invariant ∙ ap cond_text c.self.view_is
