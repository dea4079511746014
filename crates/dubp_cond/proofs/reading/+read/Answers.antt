use Rattle.std.proofs.Common.{rules, arith}
use Rattle.dubp_cond.specs.Conditions.{and_word, or_word}
use Rattle.dubp_cond.specs.Lists.{all_of, cond_of}
use Rattle.dubp_cond.specs.View.{item_tree, all_tree}
use Rattle.dubp_cond.specs.Reading.{item_at, all_at}
use Rattle.dubp_cond.proofs.Loops.{loop_fails, loop_goes}
use Rattle.dubp_cond.proofs.ItemSteps.{item_shrinks, all_shrinks}
use Rattle.dubp_cond.proofs.Groups.{group_taken, first_item, no_item}
use Rattle.dubp_cond.proofs.reading.+read.Goals as goal

pub take_all-returns-in_default-clause-taken : goal.take_all-returns-in_default-clause-taken
take_all-returns-in_default-clause-taken t c = no_item c.args.groups c.args.cursor.now c.take_item.new.cursor c.in_ok-first.field-0 c.in_ok-first.ensures.taken c.in_default.is

pub take_all-returns-clause-taken : goal.take_all-returns-clause-taken
take_all-returns-clause-taken t c =
    rw (first_item c.args.groups c.args.cursor.now c.take_item.new.cursor c.in_ok-first.field-0 c.in_ok-first.ensures.taken c.in-Some.first c.in-Some.is) c.take_items.ensures.taken

pub take_items-returns-in_default-clause-taken : goal.take_items-returns-in_default-clause-taken
take_items-returns-in_default-clause-taken t c =
    loop_fails (item_at c.args.groups) (item_shrinks c.args.groups) and_word (omega arith) item_tree all_of c.items.every.items c.items.cursor _ c.items.invariant.so_far
    c.take_word.result c.take_word.new.self c.take_word.ensures.taken c.items-test.true c.in_ok-item.field-0 c.take_item.new.cursor c.in_ok-item.ensures.taken c.in_default.is

pub take_items-items-preserved : goal.take_items-items-preserved
take_items-items-preserved t c = record {
  so_far = loop_goes (item_at c.args.groups) (item_shrinks c.args.groups) and_word (omega arith) item_tree all_of c.items.every.items c.items.cursor _ c.items.invariant.so_far
      c.take_word.result c.take_word.new.self c.take_word.ensures.taken c.items-test.true c.in_ok-item.field-0 c.in-Some.item c.take_item.new.cursor c.push-in-items.new.list.items c.in_ok-item.ensures.taken c.in-Some.is
      c.in_ok-push-2.ensures.appended;
  shorter = search rules;
}

pub take_alls-returns-in_default-clause-taken : goal.take_alls-returns-in_default-clause-taken
take_alls-returns-in_default-clause-taken t c =
    loop_fails (all_at c.args.groups) (all_shrinks c.args.groups) or_word (omega arith) all_tree cond_of c.alls.any.items c.alls.cursor _ c.alls.invariant.so_far
    c.take_word.result c.take_word.new.self c.take_word.ensures.taken c.alls-test.true c.in_ok-all.field-0 c.take_all.new.cursor c.in_ok-all.ensures.taken c.in_default.is

pub take_alls-alls-preserved : goal.take_alls-alls-preserved
take_alls-alls-preserved t c = record {
  so_far = loop_goes (all_at c.args.groups) (all_shrinks c.args.groups) or_word (omega arith) all_tree cond_of c.alls.any.items c.alls.cursor _ c.alls.invariant.so_far
      c.take_word.result c.take_word.new.self c.take_word.ensures.taken c.alls-test.true c.in_ok-all.field-0 c.in-Some.all c.take_all.new.cursor c.push-in-alls.new.list.items c.in_ok-all.ensures.taken c.in-Some.is
      c.in_ok-push-2.ensures.appended;
  shorter = search rules;
}

pub take_item-closing-preserved : goal.take_item-closing-preserved
take_item-closing-preserved t c = record {
  so_far = group_taken c.args.groups (item_at c.args.groups c.args.cursor.now) c.closing.left (item_tree c.closing.item, c.closing.cursor) c.closing.invariant.so_far c.closing-test.true c.closing.invariant.within
      c.in_ok-group.field-0 c.in-Some-2.group c.take_group.new.cursor c.in_ok-group.ensures.taken c.in-Some-2.is;
  within = search rules;
  shorter = search rules;
}
