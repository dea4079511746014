use Rattle.std.proofs.Common.{rules, arith, sym, ap}
use Rattle.dubp_cond.specs.Conditions.{and_word, or_word}
use Rattle.dubp_cond.specs.Lists.{all_of, cond_of}
use Rattle.dubp_cond.specs.Gives.{left_of}
use Rattle.dubp_cond.specs.Reading.{item_at, all_at}
use Rattle.dubp_cond.proofs.Loops.{pass_fails, pass_ends, pass_goes}
use Rattle.dubp_cond.proofs.ItemSteps.{item_shrinks, all_shrinks, item_none, item_leaf, item_shut, pass_no_cond, pass_group}
use Rattle.dubp_cond.proofs.passing.+pass.Goals as goal

pub pass_all-returns-then-not-pass_item-clause-passed : goal.pass_all-returns-then-not-pass_item-clause-passed
pass_all-returns-then-not-pass_item-clause-passed t c =
    pass_fails (item_at c.args.groups) (item_shrinks c.args.groups) and_word (omega arith) all_of c.items.cursor c.args.cursor.now c.items.invariant.so_far c.pass_item.result c.pass_item.new.cursor
    c.pass_item.ensures.passed c.if-not-pass_item.true

pub pass_all-returns-then-not-take_word-clause-passed : goal.pass_all-returns-then-not-take_word-clause-passed
pass_all-returns-then-not-take_word-clause-passed t c =
    pass_ends (item_at c.args.groups) (item_shrinks c.args.groups) and_word (omega arith) all_of c.items.cursor c.args.cursor.now c.items.invariant.so_far c.pass_item.result c.take_word.result c.pass_item.new.cursor c.take_word.new.self
    c.pass_item.ensures.passed c.if-not-pass_item.false c.take_word.ensures.taken c.if-not-take_word.true c.take_word.ensures.kept

pub pass_all-items-preserved : goal.pass_all-items-preserved
pass_all-items-preserved t c = record {
  so_far = pass_goes (item_at c.args.groups) (item_shrinks c.args.groups) and_word (omega arith) all_of c.items.cursor c.args.cursor.now c.items.invariant.so_far c.pass_item.result c.take_word.result c.pass_item.new.cursor
      c.take_word.new.self c.pass_item.ensures.passed c.if-not-pass_item.false c.take_word.ensures.taken c.if-not-take_word.false;
  shorter = search rules;
}

pub pass_cond-returns-then-not-pass_all-clause-passed : goal.pass_cond-returns-then-not-pass_all-clause-passed
pass_cond-returns-then-not-pass_all-clause-passed t c =
    pass_fails (all_at c.args.groups) (all_shrinks c.args.groups) or_word (omega arith) cond_of c.alls.cursor c.args.cursor.now c.alls.invariant.so_far c.pass_all.result c.pass_all.new.cursor
    c.pass_all.ensures.passed c.if-not-pass_all.true

pub pass_cond-returns-then-not-take_word-clause-passed : goal.pass_cond-returns-then-not-take_word-clause-passed
pass_cond-returns-then-not-take_word-clause-passed t c =
    pass_ends (all_at c.args.groups) (all_shrinks c.args.groups) or_word (omega arith) cond_of c.alls.cursor c.args.cursor.now c.alls.invariant.so_far c.pass_all.result c.take_word.result c.pass_all.new.cursor c.take_word.new.self
    c.pass_all.ensures.passed c.if-not-pass_all.false c.take_word.ensures.taken c.if-not-take_word.true c.take_word.ensures.kept

pub pass_cond-alls-preserved : goal.pass_cond-alls-preserved
pass_cond-alls-preserved t c = record {
  so_far = pass_goes (all_at c.args.groups) (all_shrinks c.args.groups) or_word (omega arith) cond_of c.alls.cursor c.args.cursor.now c.alls.invariant.so_far c.pass_all.result c.take_word.result c.pass_all.new.cursor
      c.take_word.new.self c.pass_all.ensures.passed c.if-not-pass_all.false c.take_word.ensures.taken c.if-not-take_word.false;
  shorter = search rules;
}

pub pass_item-returns-in-None-clause-passed : goal.pass_item-returns-in-None-clause-passed
pass_item-returns-in-None-clause-passed t c = ap left_of (item_none c.args.groups c.args.cursor.now (sym c.in-None.ensures.taken))

pub pass_item-returns-in-Some-Leaf-clause-passed : goal.pass_item-returns-in-Some-Leaf-clause-passed
pass_item-returns-in-Some-Leaf-clause-passed t c =
    ap left_of (item_leaf c.args.groups c.args.cursor.now c.take_front.new.cursor c.in-Some-Leaf.field-0 c.in-Some-Leaf.ensures.taken c.in-Some-Leaf.field-0-0 c.in-Some-Leaf.field-0-is)

pub pass_item-returns-then-groups-eq0-clause-passed : goal.pass_item-returns-then-groups-eq0-clause-passed
pass_item-returns-then-groups-eq0-clause-passed t c =
    ap left_of (item_shut c.args.groups c.args.cursor.now c.take_front.new.cursor c.in-Some-Group.field-0 c.in-Some-Group.ensures.taken c.if-groups-eq0.true c.in-Some-Group.field-0-is)

pub pass_item-returns-then-not-pass_cond-clause-passed : goal.pass_item-returns-then-not-pass_cond-clause-passed
pass_item-returns-then-not-pass_cond-clause-passed t c =
    pass_no_cond c.args.groups c.args.cursor.now c.take_front.new.cursor c.in-Some-Group.field-0 c.if-groups-eq0.false c.in-Some-Group.ensures.taken c.in-Some-Group.field-0-is
    c.pass_cond.new.cursor c.pass_cond.result c.pass_cond.ensures.passed c.if-not-pass_cond.true

pub pass_item-returns-clause-passed : goal.pass_item-returns-clause-passed
pass_item-returns-clause-passed t c =
    pass_group c.args.groups c.args.cursor.now c.take_front.new.cursor c.in-Some-Group.field-0 c.if-groups-eq0.false c.in-Some-Group.ensures.taken c.in-Some-Group.field-0-is
    c.pass_cond.new.cursor c.pass_cond.result c.pass_cond.ensures.passed c.take_word.new.self c.take_word.result c.if-not-pass_cond.false c.take_word.ensures.taken
