use Rattle.std.proofs.Common.{◌≡◌, ◌++◌, take}
use Rattle.dubp_rows.proofs.copying.put_copies.Given as goal

abbrev pub invariant-loop-item : goal.invariant-loop-item
invariant-loop-item l = l.out.items ≡ l.fn.out.items ++ take l.item-index l.items
