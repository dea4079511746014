use Rattle.std.proofs.Common.{arith, ◌∙◌, refl, sym}
use Rattle.dubp_entries.proofs.RunSteps.{so_far_nothing, pauses, reads_on, breaks, answered, answered_most, ends, read_nothing, quiet_end}
use Rattle.dubp_session.proofs.running.session.Goals as goal

pub reads-init : goal.reads-init
reads-init g c = record {
  read_same = refl;
  write_same = refl;
  within = omega arith;
  settled = c.requires.settled;
  so_far = so_far_nothing _ _ _ _ c.requires.empty;
}

pub answer_at_hand-requires-clause-stands : goal.answer_at_hand-requires-clause-stands
answer_at_hand-requires-clause-stands g c = (c.reads.invariant.so_far.rest, c.reads.invariant.so_far.stands)

pub returns-in-Err-clause-ends : goal.returns-in-Err-clause-ends
returns-in-Err-clause-ends g c = breaks _ _ _ _ _ _ _ _ _ _ _ c.reads.invariant.so_far c.reads.invariant.within c.in-Err.ensures.broke

pub returns-then-taken-ge-MOST_TAKEN-clause-ends :
    goal.returns-then-taken-ge-MOST_TAKEN-clause-ends
returns-then-taken-ge-MOST_TAKEN-clause-ends g c =
    answered_most _ _ _ _ _ _ _ _ _ (pauses _ _ _ _ _ _ _ _ _ _ _ _ _ c.reads.invariant.so_far c.in-Ok.ensures.served) (omega (arith, c.reads.invariant.within))

pub returns-in-Err-read_from-clause-ends : goal.returns-in-Err-read_from-clause-ends
returns-in-Err-read_from-clause-ends g c =
    answered _ _ _ _ _ _ _ _ _ _ (pauses _ _ _ _ _ _ _ _ _ _ _ _ _ c.reads.invariant.so_far c.in-Ok.ensures.served) c.in-Err-read_from.ensures.failed.1 c.if-taken-ge-MOST_TAKEN.false

pub returns-in-Ok-eq0-clause-ends : goal.returns-in-Ok-eq0-clause-ends
returns-in-Ok-eq0-clause-ends g c =
    let p = pauses _ _ _ _ _ _ _ _ _ _ _ _ _ c.reads.invariant.so_far c.in-Ok.ensures.served in
    let piece = c.in-Ok-eq0.ensures.given in
    let q = read_nothing _ _ _ _ _ _ _ _ _ _ _ _ p piece.3 (piece.1 ∙ c.in-Ok-eq0.field-0-test) piece.2 in
    ends _ _ _ _ _ _ _ _ _ _ _ _ q c.if-taken-ge-MOST_TAKEN.false (c.in-Ok-eq0.ensures.end c.in-Ok-eq0.field-0-test) (c.end.ensures.ends q.rest q.stands q.no_more)

pub returns-in-Err-read_from-clause-last_read : goal.returns-in-Err-read_from-clause-last_read
returns-in-Err-read_from-clause-last_read g c = λ is. c.in-Err-read_from.ensures.failing

pub returns-in-Ok-eq0-clause-faults : goal.returns-in-Ok-eq0-clause-faults
returns-in-Ok-eq0-clause-faults g c =
    quiet_end _ _ _ _ _ (c.reads.invariant.read_same ∙ sym c.in-Ok-eq0.ensures.cause.same) (c.reads.invariant.write_same ∙ sym c.in-Ok.ensures.cause.same) c.end.result c.end.ensures.faults

pub reads-preserved : goal.reads-preserved
reads-preserved g c =
    let p = pauses _ _ _ _ _ _ _ _ _ _ _ _ _ c.reads.invariant.so_far c.in-Ok.ensures.served in
    let piece = c.in-Ok-read_from.ensures.given in
    record {
      read_same = c.reads.invariant.read_same ∙ sym c.in-Ok-read_from.ensures.cause.same;
      write_same = c.reads.invariant.write_same ∙ sym c.in-Ok.ensures.cause.same;
      within = omega (arith, c.in-Ok-read_from.ensures.most);
      settled = c.in-Ok.ensures.settled;
      so_far = reads_on _ _ _ _ _ _ _ _ _ _ _ _ _ p piece.3 piece.1 piece.2;
    }
