-- Each condition inside a group nests less deep than the whole.
use Rattle.std.specs.Prelude.{◌≤◌, max, List, [], ◌∷◌}
use Rattle.std.proofs.Common.{arith}
use denote.Param.Weighed.{most}
use Rattle.dubp_cond.specs.Tree.{depth_of_item, depth_of_all, depth}
use Rattle.dubp_cond.specs.View.{item_tree, all_view, all_tree, cond_view}
use Rattle.dubp_cond.specs.declared.tree.Item.{Item}
use Rattle.dubp_cond.specs.declared.tree.Item.TheVariants as item
use Rattle.dubp_cond.specs.declared.tree.All.{All}
use Rattle.dubp_cond.specs.declared.tree.Cond.TheDeep.{deep-Item, deep-All}

item_deep : (i : Item) → deep-Item i ≤ depth_of_item (item_tree i)
item_deep (item.Sig k) = omega arith
item_deep (item.Xhx h) = omega arith
item_deep (item.Csv n) = omega arith
item_deep (item.Cltv n) = omega arith
item_deep (item.Group c) = omega arith

items_deep : (items : List Item) → most deep-Item items ≤ depth_of_all (all_view items)
items_deep [] = omega arith
items_deep (i ∷ rest) = omega (arith, item_deep i, items_deep rest)

all_deep : (a : All) → deep-All a ≤ depth_of_all (all_tree a)
all_deep a = omega (arith, items_deep a.every.items)

alls_deep : (alls : List All) → most deep-All alls ≤ depth (cond_view alls)
alls_deep [] = omega arith
alls_deep (a ∷ rest) = omega (arith, all_deep a, alls_deep rest)

pub deep_le_depth : (alls : List All) → max (most deep-All alls) 0 ≤ depth (cond_view alls)
deep_le_depth alls = omega (arith, alls_deep alls)
