use Rattle.dubp_validity.specs.Rules.{Holds}
use Rattle.dubp_head.specs.NextHead.{header_rules}
use Rattle.dubp_head.specs.Laws.{HeaderOn}
use Rattle.dubp_head.proofs.SameRules.{is_first_same, header_is_rules}
use Rattle.dubp_head.proofs.laws.header_is_rules.Goals as goal

pub returns-clause-each : goal.returns-clause-each
returns-clause-each c = header_is_rules

pub returns-clause-first : goal.returns-clause-first
returns-clause-first c v chain b answer = is_first_same (HeaderOn chain b) (Holds v chain b) header_rules answer (header_is_rules v chain b)
