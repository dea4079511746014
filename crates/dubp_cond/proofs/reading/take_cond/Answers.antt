use Rattle.dubp_cond.proofs.Groups.{first_all, no_all}
use Rattle.dubp_cond.proofs.reading.take_cond.Goals as goal

pub returns-in_default : goal.returns-in_default
returns-in_default c = no_all c.args.groups c.args.cursor.now c.take_all.new.cursor c.in_ok-first.field-0 c.in_ok-first.ensures.taken c.in_default.is

pub returns : goal.returns
returns c = rw (first_all c.args.groups c.args.cursor.now c.take_all.new.cursor c.in_ok-first.field-0 c.in_ok-first.ensures.taken c.in-Some.first c.in-Some.is) c.take_alls.ensures.taken
