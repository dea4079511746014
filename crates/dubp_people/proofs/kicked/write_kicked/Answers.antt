use Rattle.std.proofs.Common.{◌∷◌, refl}
use Rattle.std.specs.Prelude.{is_some}
use Rattle.std.specs.Cmp.Lexicographic.{slice_cmp}
use Rattle.std.specs.Ordering.{nat_cmp}
use Rattle.dubp_undo.specs.MovingTable.{get}
use Rattle.dubp_chain.specs.Live.{received}
use Rattle.dubp_chain.specs.Tables.{identity_row, membership_row, is_to_be_excluded}
use Rattle.dubp_people_apply.specs.OfSteps.{kicked_by}
use Rattle.dubp_people.proofs.Lines.{all_renewed}
use Rattle.dubp_people.proofs.Rows.{unit_of, some_of}
use Rattle.dubp_people.proofs.kicked.write_kicked.Goals as goal

pub returns-clause-at : goal.returns-clause-at
returns-clause-at g c = λ chain w e at old k.
    let b = c.args.block.now in
    let was = get (slice_cmp nat_cmp) c.args.kicked.now.table.now k in
    unit_of (get (slice_cmp nat_cmp) c.renew_all-6.new.kicked.table.now k) (is_to_be_excluded (b ∷ chain) k)
    (all_renewed chain b k _ _ _ _ _ _ _ (is_some was) _ _ _ _ _ _ w.sound
    (λ i. kicked_by (w.is_next.params i) (w.is_next.time i) (received (b ∷ chain) k) (identity_row (b ∷ chain) k) (membership_row (b ∷ chain) k))
    c.as_slice.ensures c.as_slice-2.ensures c.as_slice-3.ensures c.as_slice-4.ensures c.as_slice-certifications.ensures e
    (some_of was (is_to_be_excluded chain k) (old k))
    (c.in_ok-renew_all.ensures.now (b ∷ chain) at k) (c.in_ok-renew_all-2.ensures.now (b ∷ chain) at k) (c.in_ok-renew_all-3.ensures.now (b ∷ chain) at k)
    (c.in_ok-renew_all-4.ensures.now (b ∷ chain) at k) (c.in_ok-renew_all-5.ensures.now (b ∷ chain) at k) (c.in_ok-renew_all-6.ensures.now (b ∷ chain) at k))
