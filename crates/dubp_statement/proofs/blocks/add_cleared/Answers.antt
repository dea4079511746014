use Rattle.std.proofs.Common.{◌∷◌, [], List, ap, fold, length, sym, subst, take, ◌∙◌, arith}
use Rattle.std.proofs.lemmas.List.{length-map}
use Rattle.std.proofs.lemmas.List.Sums.{fold-append}
use Rattle.dubp_chain.specs.Money.{Source}
use Rattle.dubp_validity.specs.Records.{input_of}
use Rattle.dubp_validity.specs.declared.record.Record.TheVariants.{Clear}
use Rattle.dubp_replay.specs.OfMoves.{Account, with_cleared}
use Rattle.dubp_statement.specs.Tallies.{IsTallyOf, moves_of}
use Rattle.dubp_statement.proofs.Lists.{begins_on, all_taken, image_at}
use Rattle.dubp_statement.proofs.blocks.add_cleared.Goals as goal

pub loop-item-preserved : goal.loop-item-preserved
loop-item-preserved c = record {
  account = λ sources a are is.
      let i = c.loop-item.item-index in
      let step = with_cleared c.args.number in
      let at = image_at (λ (s : Source). Clear (input_of s)) sources c.args.cleared.now i c.item-item.result are c.loop-item-test.true c.item-item.is in
      subst (λ (x : Account). IsTallyOf x c.clear.new.tally)
      (sym (ap (fold step a) at.more ∙ fold-append step a (take i sources) (at.source ∷ [])))
      (c.in_ok-clear.ensures.account at.source (fold step a (take i sources)) at.is (c.loop-item.invariant.account sources a are is));
  begins = begins_on (moves_of c.args.tally.now) (moves_of c.loop-item.tally) (moves_of c.clear.new.tally) c.loop-item.invariant.begins c.clear.ensures.begins;
}

pub returns-clause-account : goal.returns-clause-account
returns-clause-account c = λ sources a are is.
    let all = all_taken sources c.loop-item.item-index (omega (arith, c.loop-item-test.false, ap length are, length-map sources (λ (s : Source). Clear (input_of s)))) in
    subst (λ (l : List Source). IsTallyOf (fold (with_cleared c.args.number) a l) c.loop-item.tally) all (c.loop-item.invariant.account sources a are is)
