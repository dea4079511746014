use Rattle.std.proofs.Common.{◌∙◌, subst, sym}
use Rattle.std.specs.BTreeMap.Range.{IsFromStart}
use Rattle.dubp_journal.specs.MovingTable.{get}
use Rattle.dubp_journal.specs.Slots.{held}
use Rattle.dubp_journal.specs.Walking.{IsRest}
use Rattle.dubp_journal.proofs.Walks.{set_out, first_held, goes_on}
use Rattle.dubp_journal.proofs.by_order.ByOrderOrderedFinder.next_held.Goals as goal

pub loop-k-init : goal.loop-k-init
loop-k-init g c =
    let m = c.args.self.now.slots.entries in
    let slots = c.args.slots.now in
    subst (IsRest g.K.Ord.cmp (IsFromStart g.K.Ord.cmp c.args.from) (λ q. held slots (get g.K.Ord.cmp m q)) slots) (sym (c.into_iter-k-iterator.ensures.into_iter_gives ∙ c.range_from-k-items.ensures.between))
    (set_out g.met.K.Ord.total m slots c.args.from c.range_from-k-items.ensures.ordered)

pub returns-in-Some-held-clause-found : goal.returns-in-Some-held-clause-found
returns-in-Some-held-clause-found g c =
    let m = c.args.self.now.slots.entries in
    let slots = c.args.slots.now in
    first_held g.met.K.Ord.total m slots c.args.from (c.in-Some.k.now, c.in-Some.slot.now) c.next.new.self
    (subst (IsRest g.K.Ord.cmp (IsFromStart g.K.Ord.cmp c.args.from) (λ q. held slots (get g.K.Ord.cmp m q)) slots) c.in-Some.ensures.steps c.loop-k.invariant) c.in-Some-held.v (sym c.held.ensures ∙ c.in-Some-held.is)

pub loop-k-preserved : goal.loop-k-preserved
loop-k-preserved g c =
    let m = c.args.self.now.slots.entries in
    let slots = c.args.slots.now in
    goes_on g.met.K.Ord.total (IsFromStart g.K.Ord.cmp c.args.from) (λ q. held slots (get g.K.Ord.cmp m q)) slots (c.in-Some.k.now, c.in-Some.slot.now) c.next.new.self
    (subst (IsRest g.K.Ord.cmp (IsFromStart g.K.Ord.cmp c.args.from) (λ q. held slots (get g.K.Ord.cmp m q)) slots) c.in-Some.ensures.steps c.loop-k.invariant) (sym c.held.ensures ∙ c.in_default.is)
