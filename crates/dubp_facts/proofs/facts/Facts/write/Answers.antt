use Rattle.std.proofs.Common.{◌∙◌, cond, Some, ap}
use Rattle.std.specs.BTreeMap.{is_at}
use Rattle.std.specs.Ordering.{nat_cmp}
use Rattle.dubp_undo.specs.MovingTable.{get}
use Rattle.dubp_facts.specs.Facts.{one, first_after, block_time}
use Rattle.dubp_facts.proofs.Written.{first-next, times-next}
use Rattle.dubp_facts.proofs.facts.Facts.write.Goals as goal

pub returns-clause-at : goal.returns-clause-at
returns-clause-at g c = λ chain at next.
    let h = c.args.head.now in (
      λ k. c.in_ok-write_first.ensures.now k ∙ ap (λ m. first_after c.args.block.now (get one m k)) c.ready.ensures.now ∙ ap (first_after c.args.block.now) (at.0 k) ∙ first-next chain c.args.block.now h next,
      λ n. c.in_ok-set.ensures.now n ∙ ap (cond (is_at (nat_cmp n) h.number) (Some (block_time h))) (ap (λ m. get nat_cmp m n) c.ready-2.ensures.now ∙ at.1 n) ∙ times-next chain c.args.block.now h next.head n,
    )
