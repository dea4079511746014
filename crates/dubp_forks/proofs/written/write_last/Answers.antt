use Rattle.std.proofs.Common.{◌∙◌, ◌++◌, ◌∷◌, [], ◌-◌, suc, ap, add-one, arith, drop, length, reverse}
use Rattle.dubp_forks.specs.Entries.{entries_of, entry_of}
use Rattle.dubp_forks.proofs.Cuts.{all_written, few_written, one_written}
use Rattle.dubp_forks.proofs.written.write_last.Goals as goal

pub loop-number-preserved : goal.loop-number-preserved
loop-number-preserved g c =
    let i = c.loop-number.invariant in
    let chain = c.args.ledger.now.chain in
    let number = c.loop-number.number in
    let written = c.loop-number.last.items in
    let e = c.in_ok-entry.ensures in
    record {
      within = omega (arith, c.loop-number-test.true, c.len-len.ensures);
      written =
          rw add-one
          (ap (λ l. l ++ entries_of (drop (suc number) (reverse chain))) (c.in_ok-push_entry.ensures ∙ ap (λ x. written ++ x ∷ []) e.2)
          ∙ one_written entry_of (reverse chain) number e.0 written (entries_of (drop (length chain - c.args.count) (reverse chain))) e.1 i.written);
    }

pub returns-clause-entries : goal.returns-clause-entries
returns-clause-entries g c =
    all_written entry_of c.args.ledger.now.chain c.args.count c.loop-number.number c.loop-number.last.items (omega (arith, c.loop-number-test.false, c.len-len.ensures)) c.loop-number.invariant.written

pub returns-clause-few : goal.returns-clause-few
returns-clause-few g c =
    few_written entry_of c.args.ledger.now.chain c.args.count c.loop-number.last.items
    (all_written entry_of c.args.ledger.now.chain c.args.count c.loop-number.number c.loop-number.last.items (omega (arith, c.loop-number-test.false, c.len-len.ensures)) c.loop-number.invariant.written)
