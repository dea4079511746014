use Rattle.std.proofs.Common.{◌∷◌, [], arith}
use Rattle.std.specs.FinMap.{insert, remove}
use Rattle.dubp_expiry.specs.Entries.{queued}
use Rattle.dubp_expiry.specs.declared.due.Due.TheVariants.{Membership}
use Rattle.dubp_tables_at_work.proofs.expiry.empties.Goals as goal

pub taking-init : goal.taking-init
taking-init g c = (insert (queued []) (10, Membership c.args.key) tt ∷ [], c.in_ok-plan.ensures.at [] [] c.new-queue.ensures.at)

pub taking-smaller : goal.taking-smaller
taking-smaller g c =
    let s = c.taking.invariant.0 in
    let is = c.taking.invariant.1 in
    let fewer = c.in_ok-cancel.ensures.fewer s is (c.in-Some.ensures.found s is).has in
    omega (arith, fewer)

pub taking-preserved : goal.taking-preserved
taking-preserved g c =
    let s = c.taking.invariant.0 in
    (remove (queued s) (c.in-Some.time, c.in-Some.due) ∷ [], c.in_ok-cancel.ensures.at s [] c.taking.invariant.1)
