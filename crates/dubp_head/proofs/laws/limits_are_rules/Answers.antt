use Rattle.dubp_validity.specs.Rules.{Holds}
use Rattle.dubp_head.specs.Following.{limit_rules}
use Rattle.dubp_head.specs.Laws.{LimitOn}
use Rattle.dubp_head.proofs.SameRules.{is_first_same, limits_are_rules}
use Rattle.dubp_head.proofs.laws.limits_are_rules.Goals as goal

pub returns-clause-each : goal.returns-clause-each
returns-clause-each c = limits_are_rules

pub returns-clause-first : goal.returns-clause-first
returns-clause-first c v chain b answer = is_first_same (LimitOn chain b) (Holds v chain b) limit_rules answer (limits_are_rules v chain b)
