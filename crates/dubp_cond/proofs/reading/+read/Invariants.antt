use Rattle.std.proofs.Common.{◌≡◌, ◌+◌, ◌-◌, ◌≤◌, ◌*◌, length, map}
use Rattle.dubp_cond.specs.Conditions.{and_word, or_word}
use Rattle.dubp_cond.specs.View.{item_tree, all_tree}
use Rattle.dubp_cond.specs.Separated.{after, go_on, separated}
use Rattle.dubp_cond.specs.Reading.{item_at, all_at, in_open}
use Rattle.dubp_cond.proofs.Loops.{SoFar}
use Rattle.dubp_cond.proofs.reading.+read.Given as goal

abbrev pub decreases-take_item : goal.decreases-take_item
decreases-take_item l = 5 * l.groups

abbrev pub decreases-take_items : goal.decreases-take_items
decreases-take_items l = 5 * l.groups + 1

abbrev pub decreases-take_all : goal.decreases-take_all
decreases-take_all l = 5 * l.groups + 2

abbrev pub decreases-take_alls : goal.decreases-take_alls
decreases-take_alls l = 5 * l.groups + 3

abbrev pub decreases-take_group : goal.decreases-take_group
decreases-take_group l = 5 * l.groups + 4

abbrev pub invariant-take_item-closing : goal.invariant-take_item-closing
invariant-take_item-closing l = record {
  so_far : item_at l.groups l.fn.cursor ≡ in_open (l.groups - l.left) l.left (item_tree l.item, l.cursor);
  within : l.left ≤ l.groups;
  shorter : length l.cursor + 1 ≤ length l.fn.cursor;
}

abbrev pub decreases-take_item-closing : goal.decreases-take_item-closing
decreases-take_item-closing l = l.groups - l.left

abbrev pub invariant-take_items-items : goal.invariant-take_items-items
invariant-take_items-items l = record {
  so_far : SoFar (item_at l.groups) and_word (map item_tree l.every.items) l.cursor (go_on (separated (item_at l.groups) and_word) (item_tree l.fn.first) (after and_word l.fn.cursor) l.fn.cursor);
  shorter : length l.cursor ≤ length l.fn.cursor;
}

abbrev pub decreases-take_items-items : goal.decreases-take_items-items
decreases-take_items-items l = length l.cursor

abbrev pub invariant-take_alls-alls : goal.invariant-take_alls-alls
invariant-take_alls-alls l = record {
  so_far : SoFar (all_at l.groups) or_word (map all_tree l.any.items) l.cursor (go_on (separated (all_at l.groups) or_word) (all_tree l.fn.first) (after or_word l.fn.cursor) l.fn.cursor);
  shorter : length l.cursor ≤ length l.fn.cursor;
}

abbrev pub decreases-take_alls-alls : goal.decreases-take_alls-alls
decreases-take_alls-alls l = length l.cursor
