use Rattle.std.proofs.Common.{cond, ◌==◌, ap, sym, ◌∙◌}
use Rattle.std.specs.Ordering.{nat_cmp}
use Rattle.dubp_undo.specs.MovingTable.{get}
use Rattle.dubp_sindex.specs.Changes.{is_place, with_after, with_before, changed}
use Rattle.dubp_sindex.proofs.Derived.{tied_numbers, tied_names}
use Rattle.dubp_sindex.proofs.change.put.Goals as goal

pub returns-clause-at : goal.returns-clause-at
returns-clause-at g c = λ origins old new at moved. (
  λ x. c.in_ok-set.ensures.now x ∙ (λ i. cond (tied_names x c.args.name i) (c.named_place-named.ensures i) (at.0 x i)) ∙ sym (moved.named x),
  λ q. c.in_ok-set_rows.ensures.now q
      ∙ (λ i. cond (q == c.args.change.now.place) c.args.change.now.own (changed (is_place q c.args.change.now.after) (with_before c.args.change.now.ahead) (changed (is_place q c.args.change.now.before) (with_after c.args.change.now.behind) ((ap (λ m. get nat_cmp m q) c.ready_rows.ensures.now ∙ at.1 q) i))))
      ∙ sym (moved.row q),
  λ a. c.in_ok-set-2.ensures.now a ∙ (λ i. cond (tied_numbers a c.args.change.now.account i) c.args.change.now.balance ((ap (λ m. get nat_cmp m a) c.ready.ensures.now ∙ at.2 a) i)) ∙ sym (moved.balance a),
)
