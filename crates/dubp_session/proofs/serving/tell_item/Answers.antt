use Rattle.std.proofs.Common.{subst, sym}
use Rattle.dubp_entries.specs.Entries.{Entry, IsWhole}
use Rattle.dubp_entries.specs.Reading.{Shows}
use Rattle.dubp_entries.specs.Turns.{EntryServed}
use Rattle.dubp_entries.specs.declared.item.Item.{Item}
use Rattle.dubp_session.proofs.Items.{long_line_turn}
use Rattle.dubp_session.proofs.serving.tell_item.Goals as goal

pub returns-in-LongLine-clause-told : goal.returns-in-LongLine-clause-told
returns-in-LongLine-clause-told g c = λ told entry whole shows.
    let s = subst (λ (i : Item). Shows i entry) c.in-LongLine.is shows in
    long_line_turn c.args.node.now entry s.0 c.put_bad.new.line.items s.1 s.2 c.put_bad.ensures

pub returns-in-Line-clause-told : goal.returns-in-Line-clause-told
returns-in-Line-clause-told g c = λ told entry whole shows.
    let s = subst (λ (i : Item). Shows i entry) c.in-Line.is shows in
    subst (λ (x : Entry). EntryServed c.args.node.now x c.tell_line.new.line.items c.args.node.now) (sym s) (c.tell_line.ensures.told told (subst IsWhole s whole))
