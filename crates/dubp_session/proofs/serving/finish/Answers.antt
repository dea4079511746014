use Rattle.std.proofs.Common.{refl, subst, arith}
use Rattle.dubp_entries.specs.Cut.{BeginsNone}
use Rattle.dubp_entries.specs.Reading.{Stands}
use Rattle.dubp_entries.proofs.Serves.{finished_frame, finished_line, broke_line, long_line_open}
use Rattle.dubp_entries.proofs.Wholes.{whole_line}
use Rattle.dubp_entries.proofs.Taking.{long_no_head}
use Rattle.dubp_session.proofs.serving.finish.Goals as goal

pub returns-in-LongFrame-clause-finished : goal.returns-in-LongFrame-clause-finished
returns-in-LongFrame-clause-finished g c = λ bytes s none.
    let f = subst (λ p. Stands p c.args.hand.now bytes) c.in-LongFrame.is s in
    rw f.bytes_are (finished_frame _ _ f.head _ (subst BeginsNone f.bytes_are none))

pub returns-in-Err-clause-broke : goal.returns-in-Err-clause-broke
returns-in-Err-clause-broke g c = λ bytes s none.
    let f = subst (λ p. Stands p c.args.hand.now bytes) c.in-LongLine.is s in
    let t = long_line_open _ bytes f none in
    let whole = whole_line bytes t.0 (long_no_head bytes t.1) in
    let w = c.in-Err.ensures.broke _ whole (bytes, refl, t.1) in
    broke_line _ _ _ _ bytes w.0 whole (omega (arith, t.1)) w.1 w.2

pub returns-in_default-clause-finished : goal.returns-in_default-clause-finished
returns-in_default-clause-finished g c = λ bytes s none.
    let f = subst (λ p. Stands p c.args.hand.now bytes) c.in-LongLine.is s in
    let t = long_line_open _ bytes f none in
    let whole = whole_line bytes t.0 (long_no_head bytes t.1) in
    let w = c.in_default.ensures.written _ whole (bytes, refl, t.1) in
    finished_line _ _ _ _ bytes w.0 whole (omega (arith, t.1)) w.1 w.2
