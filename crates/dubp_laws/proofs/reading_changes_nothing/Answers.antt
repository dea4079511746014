-- Where a rule is not read, an earlier one fails.
use Rattle.dubp_validity.specs.Rules.{Holds}
use Rattle.dubp_laws.proofs.RulesRead.{where_read, from_where_read}
use Rattle.dubp_laws.proofs.reading_changes_nothing.Goals as goal

pub returns : goal.returns
returns c = λ v chain b answer. (where_read (Holds v chain b) answer, from_where_read (Holds v chain b) answer)
