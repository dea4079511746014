-- Lists as the lists of a tree.
use Rattle.std.specs.Prelude.{List, [], ◌∷◌}
use Rattle.dubp_cond.specs.Tree.{ItemTree, AllTree, no_items, add_item, CondTree, no_alls, add_all}

abbrev pub all_of : List ItemTree → AllTree
all_of [] = no_items
all_of (i ∷ more) = add_item i (all_of more)

abbrev pub cond_of : List AllTree → CondTree
cond_of [] = no_alls
cond_of (a ∷ more) = add_all a (cond_of more)
