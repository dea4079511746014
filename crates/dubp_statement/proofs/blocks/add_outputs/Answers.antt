use Rattle.std.proofs.Common.{◌≡◌, ℕ, fold, map, take, ap, sym, subst, refl, arith}
use Rattle.std.specs.List.{enumerate_from}
use Rattle.dubp_chain.specs.OfCond.{T}
use Rattle.dubp_chain.specs.Money.{output_source}
use Rattle.dubp_validity.specs.Records.{input_of}
use Rattle.dubp_replay.specs.OfMoves.{Account, with_made}
use Rattle.dubp_statement.specs.Tallies.{IsTallyOf, moves_of}
use Rattle.dubp_statement.proofs.Lists.{begins_on, numbered_more}
use Rattle.dubp_statement.proofs.blocks.add_outputs.Goals as goal

pub loop-output-preserved : goal.loop-output-preserved
loop-output-preserved c =
    let i = c.loop-output.output-index in
    let o = c.output-item.result in
    let hash = c.args.hash.now in
    let outputs = c.as_slice-output-items.result.now in
    let step = with_made c.args.cond.now c.args.number in
    record {
      place = omega (arith, c.loop-output.invariant.place);
      made = λ time a is.
          let made = output_source time hash in
          let input : input_of (made (i, o)) ≡ record { amount = o.amount; base = o.base; source = T hash c.loop-output.place } =
          ap (λ (k : ℕ). record { amount = o.amount; base = o.base; source = T hash k }) (sym c.loop-output.invariant.place) in
          subst (λ (x : Account). IsTallyOf x c.add_output.new.tally)
          (sym (numbered_more step made a outputs i o c.loop-output-test.true c.output-item.is))
          (c.in_ok-add_output.ensures.account (made (i, o)) (fold step a (map made (enumerate_from 0 (take i outputs)))) refl input (c.loop-output.invariant.made time a is));
      begins = begins_on (moves_of c.args.tally.now) (moves_of c.loop-output.tally) (moves_of c.add_output.new.tally) c.loop-output.invariant.begins c.add_output.ensures.begins;
    }
