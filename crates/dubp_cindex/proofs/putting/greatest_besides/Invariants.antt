use Rattle.std.proofs.Common.{◌≡◌, Some}
use Rattle.std.specs.declared.ops.Bound.TheVariants.{Excluded}
use Rattle.dubp_undo.specs.MovingTable.{get}
use Rattle.dubp_cindex.specs.Orders.{place_cmp}
use Rattle.dubp_cindex.proofs.Left.{left, other_of}
use Rattle.dubp_cindex.proofs.Greatest.{IsGreatestUpTo}
use Rattle.dubp_cindex.proofs.putting.greatest_besides.Given as goal

-- the walk stands behind a place of the issuer, up to which the greatest is known
abbrev pub invariant-loop-other : goal.invariant-loop-other
invariant-loop-other l = record {
  over : l.walk.map ≡ l.rows.table.now;
  from : l.walk.from ≡ Excluded (l.from, other_of l.walk.from);
  greatest : IsGreatestUpTo (λ y. get place_cmp l.walk.map (l.from, Some y)) l.to l.least (other_of l.walk.from) l.best;
}

abbrev pub decreases-loop-other : goal.decreases-loop-other
decreases-loop-other l = left l.from (other_of l.walk.from) l.walk.map
