use Rattle.std.proofs.Common.{refl, subst}
use Rattle.std.specs.Prelude.{IfSome, IfNone}
use Rattle.std.specs.FinMap.{empty}
use Rattle.dubp_undo.specs.States.{states}
use Rattle.dubp_expiry.specs.Entries.{IsBehind, IsNextDue, NoneIsDue}
use Rattle.dubp_left.specs.Left.{queue_left}
use Rattle.dubp_left.proofs.Looked.{newest-left}
use Rattle.dubp_registry.proofs.registry.Registry.due_behind.Goals as goal

pub returns-clause-found : goal.returns-clause-found
returns-clause-found c = λ chain at.
    subst (λ q. IfSome c.due_behind.result (IsNextDue q (IsBehind c.args.behind) c.args.now)) (newest-left empty queue_left refl chain) (c.due_behind.ensures.found (states queue_left chain) (c.queue.ensures chain at))

pub returns-clause-none : goal.returns-clause-none
returns-clause-none c = λ chain at.
    subst (λ q. IfNone c.due_behind.result (NoneIsDue q (IsBehind c.args.behind) c.args.now)) (newest-left empty queue_left refl chain) (c.due_behind.ensures.none (states queue_left chain) (c.queue.ensures chain at))
