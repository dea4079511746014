use Rattle.std.proofs.Common.{◌<◌, List, None, Option, Some, refl, subst, sym}
use Rattle.dubp_atoms.specs.declared.stamp.Stamp.{Stamp}
use Rattle.dubp_forks.specs.Entries.{blocks_in}
use Rattle.dubp_forks.proofs.Paths.{IsOnPath, left_falls, left_from, none_stored, on_ends, on_more}
use Rattle.dubp_forks.proofs.path.path_from.Goals as goal

pub returns-in_default-before_stored : goal.returns-in_default-before_stored
returns-in_default-before_stored c =
    let store = blocks_in c.args.blocks.now.entries in
    on_ends store c.args.stamp c.loop-next.stamps.items (Some c.in-Some.at) (subst (λ (o : Option Stamp). IsOnPath store c.args.stamp c.loop-next.stamps.items o) c.in-Some.is c.loop-next.invariant)
    (none_stored _ c.in_default-before_stored.ensures, refl)

pub loop-next-smaller : goal.loop-next-smaller
loop-next-smaller c =
    subst (λ (o : Option Stamp). left_from c.in-Some-before_stored.before < left_from o) (sym c.in-Some.is)
    (left_falls (blocks_in c.args.blocks.now.entries) c.requires.stored c.in-Some.at c.in-Some-before_stored.before c.in-Some-before_stored.ensures)

pub loop-next-preserved : goal.loop-next-preserved
loop-next-preserved c =
    let store = blocks_in c.args.blocks.now.entries in
    subst (λ (l : List Stamp). IsOnPath store c.args.stamp l c.in-Some-before_stored.before) (sym c.in_ok-push_stamp.ensures)
    (on_more store c.args.stamp c.loop-next.stamps.items c.in-Some.at c.in-Some-before_stored.before
    (subst (λ (o : Option Stamp). IsOnPath store c.args.stamp c.loop-next.stamps.items o) c.in-Some.is c.loop-next.invariant) c.in-Some-before_stored.ensures)

pub returns : goal.returns
returns c =
    let store = blocks_in c.args.blocks.now.entries in
    on_ends store c.args.stamp c.loop-next.stamps.items None (subst (λ (o : Option Stamp). IsOnPath store c.args.stamp c.loop-next.stamps.items o) c.in_default.is c.loop-next.invariant) (refl, refl)
