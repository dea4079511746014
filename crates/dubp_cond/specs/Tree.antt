-- A condition as a tree, and how deep its groups nest. Protocol: conditions.
use Rattle.std.specs.Prelude.{ℕ, ◌+◌, max, List}

-- an ITEM, an ALL with its items in order, and a COND with its ALLs in order
mutual
  pub data ItemTree : Type 0 where
    sig : List ℕ → ItemTree
    xhx : List ℕ → ItemTree
    csv : ℕ → ItemTree
    cltv : ℕ → ItemTree
    group : CondTree → ItemTree

  pub data AllTree : Type 0 where
    no_items : AllTree
    add_item : ItemTree → AllTree → AllTree

  pub data CondTree : Type 0 where
    no_alls : CondTree
    add_all : AllTree → CondTree → CondTree

-- the most groups that are open at once
abbrev mutual
  pub depth_of_item : ItemTree → ℕ
  depth_of_item (sig key) = 0
  depth_of_item (xhx hash) = 0
  depth_of_item (csv seconds) = 0
  depth_of_item (cltv time) = 0
  depth_of_item (group c) = depth c + 1

  pub depth_of_all : AllTree → ℕ
  depth_of_all no_items = 0
  depth_of_all (add_item i more) = max (depth_of_item i) (depth_of_all more)

  pub depth : CondTree → ℕ
  depth no_alls = 0
  depth (add_all a more) = max (depth_of_all a) (depth more)
