use Rattle.std.proofs.Common.{◌≡◌, ◌+◌, suc, arith, subst, sym}
use Rattle.std.proofs.lemmas.Result.{err_from_is_err_and}
use Rattle.dubp_gen.specs.Generated.{IsMade}
use Rattle.dubp_gen.specs.Making.{IsOfMade, made_in}
use Rattle.dubp_gen.proofs.Rounds.{kept_next, made_length, of_made_next}
use Rattle.dubp_gen.proofs.making.make_ledger.Goals as goal

pub make_next-requires : goal.make_next-requires
make_next-requires g c =
    let now = c.loop.invariant in
    record { few = omega (arith, made_length c.args.start c.loop.counter (made_in c.loop.ledger c.loop.noted.items) now.made, c.loop-test.true, c.requires.few) }

pub returns-in_err-make_next-clause-ended : goal.returns-in_err-make_next-clause-ended
returns-in_err-make_next-clause-ended g c =
    let now = c.loop.invariant in
    let p = err_from_is_err_and c.from_residual.result c.from_residual.ensures.1 in
    rw (p.1, p.2) (made_in c.loop.ledger c.loop.noted.items, c.loop.counter, (c.loop-test.true, (now.made, c.in_err-make_next.ensures.ended c.args.start now.of_made)))

pub loop-preserved : goal.loop-preserved
loop-preserved g c =
    let now = c.loop.invariant in
    let start = c.args.start in
    let new = c.make_next.new in
    let said = c.in_ok-make_next.ensures in
    let made : IsMade start (suc c.loop.counter) (made_in new.ledger new.noted.items) =
    let next = said.made start now.of_made in
    (made_in c.loop.ledger c.loop.noted.items, next.0, (now.made, next.1)) in
    let one_more : suc c.loop.counter ≡ c.loop.counter + 1 = omega arith in
    let kept = kept_next c.loop.counter c.loop.ledger new.ledger now.kept now.out said.ledger in
    record {
      made = subst (λ k. IsMade start k (made_in new.ledger new.noted.items)) one_more made;
      of_made = subst (λ x. IsOfMade start new.ledger new.verdicts x new.noted.items) (sym c.next_number-x.ensures)
          (of_made_next start c.loop.x c.loop.ledger new.ledger c.loop.verdicts new.verdicts c.loop.noted.items new.noted.items now.of_made said.ledger (said.verdicts start now.of_made));
      kept = kept.0;
      out = kept.1;
    }
