use Rattle.std.proofs.Common.{◌≡◌, ◌+◌, ◌≤◌, ◌*◌, length}
use Rattle.dubp_cond.specs.Conditions.{and_word, or_word}
use Rattle.dubp_cond.specs.Separated.{separated}
use Rattle.dubp_cond.specs.Reading.{item_at, all_at}
use Rattle.dubp_cond.specs.Gives.{left_of}
use Rattle.dubp_cond.proofs.passing.+pass.Given as goal

abbrev pub decreases-pass_item : goal.decreases-pass_item
decreases-pass_item l = 3 * l.groups

abbrev pub decreases-pass_all : goal.decreases-pass_all
decreases-pass_all l = 3 * l.groups + 1

abbrev pub decreases-pass_cond : goal.decreases-pass_cond
decreases-pass_cond l = 3 * l.groups + 2

abbrev pub invariant-pass_all-items : goal.invariant-pass_all-items
invariant-pass_all-items l = record {
  so_far : left_of (separated (item_at l.groups) and_word l.cursor) ≡ left_of (separated (item_at l.groups) and_word l.fn.cursor);
  shorter : length l.cursor ≤ length l.fn.cursor;
}

abbrev pub decreases-pass_all-items : goal.decreases-pass_all-items
decreases-pass_all-items l = length l.cursor

abbrev pub invariant-pass_cond-alls : goal.invariant-pass_cond-alls
invariant-pass_cond-alls l = record {
  so_far : left_of (separated (all_at l.groups) or_word l.cursor) ≡ left_of (separated (all_at l.groups) or_word l.fn.cursor);
  shorter : length l.cursor ≤ length l.fn.cursor;
}

abbrev pub decreases-pass_cond-alls : goal.decreases-pass_cond-alls
decreases-pass_cond-alls l = length l.cursor
