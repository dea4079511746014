-- The tree that a condition of the code is.
use Rattle.std.specs.Prelude.{List, map}
use Rattle.dubp_cond.specs.Tree.{ItemTree, sig, xhx, csv, cltv, group, AllTree, CondTree}
use Rattle.dubp_cond.specs.Lists.{all_of, cond_of}
use Rattle.dubp_cond.specs.declared.tree.Item.{Item}
use Rattle.dubp_cond.specs.declared.tree.Item.TheVariants as item
use Rattle.dubp_cond.specs.declared.tree.All.{All}

abbrev pub item_tree : Item → ItemTree
item_tree (item.Sig key) = sig key
item_tree (item.Xhx hash) = xhx hash
item_tree (item.Csv seconds) = csv seconds
item_tree (item.Cltv time) = cltv time
item_tree (item.Group c) = group c.value

abbrev pub all_view : List Item → AllTree
all_view items = all_of (map item_tree items)

abbrev pub all_tree : All → AllTree
all_tree a = all_view a.every.items

abbrev pub cond_view : List All → CondTree
cond_view alls = cond_of (map all_tree alls)
