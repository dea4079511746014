use Rattle.std.proofs.Common.{◌≡◌, ◌++◌, ◌∷◌, [], map, length, ap, ◌∙◌, subst, arith}
use Rattle.std.specs.List.{enumerate_from}
use Rattle.dubp_cond.specs.Conditions.{cond_text}
use Rattle.dubp_cond.specs.declared.source.SourceId.TheVariants.{T}
use Rattle.dubp_chain.specs.Money.{output_source}
use Rattle.dubp_validity.specs.Records.{make_record}
use Rattle.dubp_validity.specs.declared.record.Record.TheVariants.{Make}
use Rattle.dubp_money.specs.Making.{outputs_at}
use Rattle.dubp_money.proofs.Begins.{begins_on}
use Rattle.dubp_money.proofs.Made.{IsNext, output_next, outputs_all, put_made}
use Rattle.dubp_money.proofs.making.put_makes.Goals as goal

pub loop-output-preserved : goal.loop-output-preserved
loop-output-preserved c =
    let hash = c.args.hash.now in
    let i = c.loop-output.output-index in
    let o = c.output-item.result in
    let place = c.loop-output.invariant.place in
    record {
      place = omega (arith, place);
      put = λ time.
          let next : IsNext (outputs_at time hash c.args.tx.now) i (output_source time hash (i, o)) =
          subst (λ l. IsNext (map (output_source time hash) (enumerate_from 0 l)) i (output_source time hash (i, o))) c.as_slice-output-items.ensures
          (output_next time hash c.as_slice-output-items.result.now i o (omega arith) c.output-item.is) in
          put_made make_record c.args.out.now.items c.loop-output.out.items c.put_make.new.out.items (outputs_at time hash c.args.tx.now) i (output_source time hash (i, o)) next (c.loop-output.invariant.put time)
          (subst (λ k. c.put_make.new.out.items ≡ c.loop-output.out.items ++ Make (record { amount = o.amount; base = o.base; source = T hash k }) (cond_text o.cond) ∷ []) place c.in_ok-put_make.ensures.appended);
      begins = begins_on c.args.out.now.items c.loop-output.out.items c.put_make.new.out.items c.loop-output.invariant.begins c.put_make.ensures.begins;
    }

pub returns-clause-appended : goal.returns-clause-appended
returns-clause-appended c = λ time.
    c.loop-output.invariant.put time
    ∙ ap (λ l. c.args.out.now.items ++ map make_record l) (outputs_all time c.args.hash.now c.args.tx.now.outputs c.loop-output.output-index (omega (arith, ap length c.as_slice-output-items.ensures)))
