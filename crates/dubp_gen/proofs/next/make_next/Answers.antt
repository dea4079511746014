use Rattle.std.proofs.lemmas.Result.{err_from_is_err_and}
use Rattle.dubp_gen.proofs.Sealing.{has_inner_hash}
use Rattle.dubp_gen.proofs.Rounds.{IsRound, ended_by, grown, made_next, not_sealed, round_of, verdicts_next}
use Rattle.dubp_gen.proofs.next.make_next.Goals as goal

pub join-requires-clause-inner : goal.join-requires-clause-inner
join-requires-clause-inner g c = has_inner_hash c.args.ledger.now.chain c.in-Ok.drafted.block c.in_ok-sealed.sealed c.in_ok-sealed.ensures.sealed

pub returns-clause-made : goal.returns-clause-made
returns-clause-made g c =
    let old = c.args.ledger.now in
    let noted = c.args.noted.now.items in
    let d = c.in-Ok in
    let s = c.in_ok-sealed in
    let round : IsRound old.chain c.args.verdicts.now c.note.new.verdicts c.args.x noted c.note.new.noted.items s.sealed =
    round_of old.chain c.args.verdicts.now c.note_all.new.verdicts c.note.new.verdicts c.args.x noted c.note_all.new.noted.items c.note.new.noted.items s.sealed d.drafted.block d.drafted.verdicts.items c.as_slice.result.now
    d.ensures.block d.ensures.given s.ensures.sealed c.as_slice.ensures.value c.in-Ok-note_all.ensures.given c.in-Ok-note_all.ensures.noted c.in-Ok-note.ensures.given c.in-Ok-note.ensures.noted in
    made_next c.join.result c.args.x old c.join.new.ledger c.args.verdicts.now c.note.new.verdicts noted c.note.new.noted.items s.sealed round c.join.ensures.joined c.join.ensures.ledger

pub returns-clause-verdicts : goal.returns-clause-verdicts
returns-clause-verdicts g c =
    let old = c.args.ledger.now in
    let noted = c.args.noted.now.items in
    let d = c.in-Ok in
    let s = c.in_ok-sealed in
    let round : IsRound old.chain c.args.verdicts.now c.note.new.verdicts c.args.x noted c.note.new.noted.items s.sealed =
    round_of old.chain c.args.verdicts.now c.note_all.new.verdicts c.note.new.verdicts c.args.x noted c.note_all.new.noted.items c.note.new.noted.items s.sealed d.drafted.block d.drafted.verdicts.items c.as_slice.result.now
    d.ensures.block d.ensures.given s.ensures.sealed c.as_slice.ensures.value c.in-Ok-note_all.ensures.given c.in-Ok-note_all.ensures.noted c.in-Ok-note.ensures.given c.in-Ok-note.ensures.noted in
    verdicts_next c.join.result c.args.x old c.args.verdicts.now c.note.new.verdicts noted c.note.new.noted.items s.sealed round

pub returns-clause-ended : goal.returns-clause-ended
returns-clause-ended g c =
    let old = c.args.ledger.now in
    let noted = c.args.noted.now.items in
    let d = c.in-Ok in
    let s = c.in_ok-sealed in
    let round : IsRound old.chain c.args.verdicts.now c.note.new.verdicts c.args.x noted c.note.new.noted.items s.sealed =
    round_of old.chain c.args.verdicts.now c.note_all.new.verdicts c.note.new.verdicts c.args.x noted c.note_all.new.noted.items c.note.new.noted.items s.sealed d.drafted.block d.drafted.verdicts.items c.as_slice.result.now
    d.ensures.block d.ensures.given s.ensures.sealed c.as_slice.ensures.value c.in-Ok-note_all.ensures.given c.in-Ok-note_all.ensures.noted c.in-Ok-note.ensures.given c.in-Ok-note.ensures.noted in
    ended_by c.join.result c.args.x old c.args.verdicts.now c.note.new.verdicts noted c.note.new.noted.items s.sealed round c.join.ensures.ended

pub returns-clause-ledger : goal.returns-clause-ledger
returns-clause-ledger g c = grown c.join.result c.args.ledger.now c.join.new.ledger c.in_ok-sealed.sealed.block c.join.ensures.ledger

pub returns-in_err-sealed-clause-ended : goal.returns-in_err-sealed-clause-ended
returns-in_err-sealed-clause-ended g c =
    let p = err_from_is_err_and c.from_residual.result c.from_residual.ensures.1 in
    rw (p.1, p.2) (not_sealed c.args.x c.args.ledger.now c.args.verdicts.now c.args.noted.now.items c.in-Ok.drafted.block c.in_err-sealed.field-0.0 c.in-Ok.ensures.block c.in_err-sealed.ensures.ended)
