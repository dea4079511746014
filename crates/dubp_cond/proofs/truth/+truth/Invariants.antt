use Rattle.std.proofs.Common.{drop, ◌↔◌}
use Rattle.dubp_cond.specs.Truth.{IsAllTrue, IsTrueAt}
use Rattle.dubp_cond.specs.Asked.{moment_of}
use Rattle.dubp_cond.specs.View.{all_tree, all_view, cond_view}
use Rattle.dubp_cond.proofs.truth.+truth.Given as goal

abbrev pub invariant-is_every_true-loop-item : goal.invariant-is_every_true-loop-item
invariant-is_every_true-loop-item l = IsAllTrue (moment_of l.moment) (all_view (drop l.item-index l.item-items)) ↔ IsAllTrue (moment_of l.moment) (all_tree l.all)

abbrev pub invariant-is_some_true-loop-all : goal.invariant-is_some_true-loop-all
invariant-is_some_true-loop-all l = IsTrueAt (moment_of l.moment) (cond_view (drop l.all-index l.all-items)) ↔ IsTrueAt (moment_of l.moment) l.cond
