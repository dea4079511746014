use Rattle.std.proofs.Common.{subst}
use Rattle.std.specs.Option.{IfSome, IfNone}
use Rattle.dubp_expiry.specs.Entries.{IsBehind, IsNextDue, NoneIsDue}
use Rattle.dubp_people_after.specs.OfLeft.{queue_left}
use Rattle.dubp_people_checks.proofs.judged.JudgedTwoChains.due_behind.Goals as goal

pub returns-clause-found : goal.returns-clause-found
returns-clause-found c = λ chain b shown.
    subst (λ n. IfSome c.due_behind.result (IsNextDue (queue_left chain) (IsBehind c.args.behind) n)) shown.1.1.is_next.time (c.due_behind.ensures.found chain shown.0)

pub returns-clause-none : goal.returns-clause-none
returns-clause-none c = λ chain b shown.
    subst (λ n. IfNone c.due_behind.result (NoneIsDue (queue_left chain) (IsBehind c.args.behind) n)) shown.1.1.is_next.time (c.due_behind.ensures.none chain shown.0)
