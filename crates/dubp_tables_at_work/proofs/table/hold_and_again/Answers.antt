use Rattle.std.proofs.Common.{◌∙◌, sym, ap, length, arith}
use Rattle.std.proofs.lemmas.List.{length_push}
use Rattle.std.specs.Ordering.{nat_cmp}
use Rattle.dubp_undo.specs.MovingTable.{get, one_more}
use Rattle.dubp_undo.proofs.Past.{length-one_more, one_more-push, push_same}
use Rattle.dubp_tables_at_work.proofs.table.hold_and_again.Goals as goal

pub back-requires : goal.back-requires
back-requires g c = omega (arith, ap length c.in_ok-set.ensures.past, length-one_more c.mark.new.self.past, ap length c.in_ok-mark.ensures.past, length_push c.ready.new.self.past (c.ready.new.self.now, 0))

-- the second write is gone, so the map is the one from which the held write comes again
pub again-requires-clause-begins : goal.again-requires-clause-begins
again-requires-clause-begins g c =
    let ready = c.ready.new.self in
    let written = c.in_ok-set.ensures.past ∙ ap one_more c.in_ok-mark.ensures.past ∙ one_more-push ready.past ready.now 0 in
    let last = (push_same _ _ _ _ (sym c.back.ensures.past ∙ written)).1 in
    let begun = c.back.ensures.root ∙ c.set.ensures.root ∙ c.mark.ensures.root ∙ c.ready.ensures.root ∙ c.reserve-2.ensures.root ∙ c.hold.ensures.root in
    let same = ap (λ x. x.0) last ∙ c.ready.ensures.now ∙ c.reserve-2.ensures.now ∙ sym begun in
    λ q. ap (λ m. get nat_cmp m q) same
