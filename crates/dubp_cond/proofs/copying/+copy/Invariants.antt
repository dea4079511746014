use Rattle.std.proofs.Common.{◌≡◌, map, take}
use Rattle.dubp_cond.specs.View.{item_tree, all_tree}
use Rattle.dubp_cond.proofs.copying.+copy.Given as goal

abbrev pub invariant-copy_all-loop-item : goal.invariant-copy_all-loop-item
invariant-copy_all-loop-item l = map item_tree l.every.items ≡ map item_tree (take l.item-index l.item-items)

abbrev pub invariant-copy_cond-loop-all : goal.invariant-copy_cond-loop-all
invariant-copy_cond-loop-all l = map all_tree l.any.items ≡ map all_tree (take l.all-index l.all-items)
