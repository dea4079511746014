use Rattle.std.proofs.Common.{subst, sym}
use Rattle.std.specs.Prelude.{IfNone}
use Rattle.dubp_expiry.specs.Entries.{queued, NoneIsDue}
use Rattle.dubp_people_apply.specs.Taking.{IsBehindAny}
use Rattle.dubp_people_apply.proofs.taking.next_due.Goals as goal

pub returns-in-None-clause-none : goal.returns-in-None-clause-none
returns-in-None-clause-none c =
    λ s at. subst (λ p. IfNone c.due.result (NoneIsDue (queued s) (IsBehindAny p) c.args.now)) (sym c.in-None.is) (c.due.ensures.none s at)
