use Rattle.std.proofs.Common.{fold, map, take, ap, sym, subst, ◌∙◌}
use Rattle.dubp_chain.specs.Money.{dividend_source, dividends_made}
use Rattle.dubp_replay.specs.OfMoves.{Account, with_made}
use Rattle.dubp_statement.specs.Tallies.{IsTallyOf, moves_of}
use Rattle.dubp_statement.proofs.Folds.{none_paid}
use Rattle.dubp_statement.proofs.Lists.{begins_on, mapped_more}
use Rattle.dubp_statement.proofs.blocks.add_dividends.Goals as goal

pub returns-in_default-signer-clause-account : goal.returns-in_default-signer-clause-account
returns-in_default-signer-clause-account c = λ a is.
    let h = c.args.head.now in
    let number = c.args.number in
    let keys = c.args.members.now in
    let step = with_made c.args.cond.now number in
    subst (λ (x : Account). IsTallyOf x c.args.tally.now)
    (sym (ap (λ ud. fold step a (dividends_made h.median_time number ud h.unit_base keys)) c.in-Some.is
    ∙ none_paid c.args.cond.now number h.median_time c.in-Some.amount h.unit_base a keys c.in_default-signer.ensures)) is

pub loop-member-preserved : goal.loop-member-preserved
loop-member-preserved c = record {
  account = λ a is.
      let h = c.args.head.now in
      let number = c.args.number in
      let keys = c.args.members.now in
      let i = c.loop-member.member-index in
      let key = c.member-item.result in
      let step = with_made c.args.cond.now number in
      let paid = dividend_source h.median_time number c.in-Some.amount h.unit_base in
      subst (λ (x : Account). IsTallyOf x c.add_dividend.new.tally)
      (sym (mapped_more step paid a keys i key c.loop-member-test.true c.member-item.is))
      (c.in_ok-add_dividend.ensures.account c.args.cond.now h.median_time (fold step a (map paid (take i keys))) (c.in-Some-signer.ensures key) (c.loop-member.invariant.account a is));
  begins = begins_on (moves_of c.args.tally.now) (moves_of c.loop-member.tally) (moves_of c.add_dividend.new.tally) c.loop-member.invariant.begins c.add_dividend.ensures.begins;
}
