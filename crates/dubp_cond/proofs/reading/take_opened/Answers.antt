use Rattle.std.proofs.Common.{rules, sym}
use Rattle.dubp_cond.proofs.Groups.{opened_none, opened_leaf, opened_all, opened_one}
use Rattle.dubp_cond.proofs.reading.take_opened.Goals as goal

pub returns-in-None-clause-none : goal.returns-in-None-clause-none
returns-in-None-clause-none c = opened_none c.args.groups c.args.cursor.now c.opened.left c.opened.cursor c.opened.invariant.so_far (sym c.in-None.ensures.taken)

pub returns-in-Some-Leaf-clause-taken : goal.returns-in-Some-Leaf-clause-taken
returns-in-Some-Leaf-clause-taken c = (
  c.opened.invariant.within,
  opened_leaf c.args.groups c.args.cursor.now c.opened.left c.opened.cursor c.take_front.new.cursor c.in-Some-Leaf.field-0 c.opened.invariant.so_far c.in-Some-Leaf.ensures.taken c.in-Some-Leaf.item c.in-Some-Leaf.field-0-is,
)

pub returns-then-left-eq0-clause-none : goal.returns-then-left-eq0-clause-none
returns-then-left-eq0-clause-none c =
    opened_all c.args.groups c.args.cursor.now c.opened.left c.opened.cursor c.take_front.new.cursor c.in-Some-Group.field-0 c.opened.invariant.so_far c.in-Some-Group.ensures.taken c.if-left-eq0.true c.in-Some-Group.field-0-is

pub opened-preserved : goal.opened-preserved
opened-preserved c = record {
  so_far = opened_one c.args.groups c.args.cursor.now c.opened.left c.opened.cursor c.take_front.new.cursor c.in-Some-Group.field-0 c.opened.invariant.so_far c.in-Some-Group.ensures.taken c.opened.invariant.within c.if-left-eq0.false
      c.in-Some-Group.field-0-is;
  within = search rules;
  shorter = search rules;
}
