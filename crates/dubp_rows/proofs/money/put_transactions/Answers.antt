use Rattle.std.proofs.Common.{◌++◌, length, take, get_or, ap, sym, ◌∙◌, rules, append_assoc}
use Rattle.std.proofs.lemmas.List.{get_or-map, length_push}
use Rattle.std.proofs.lemmas.Slice.Zip.{zip_turn}
use Rattle.std.specs.List.{flat_map}
use Rattle.dubp_chain.specs.OfDocs.{tx_hash}
use Rattle.dubp_validity.specs.Records.{transaction_records}
use Rattle.dubp_money.proofs.Begins.{begins_on}
use Rattle.dubp_money.proofs.Written.{flat_next}
use Rattle.dubp_rows.proofs.money.put_transactions.Goals as goal

pub loop-tx-preserved : goal.loop-tx-preserved
loop-tx-preserved c =
    let b = c.args.block.now in
    let txs = b.transactions in
    let i = length c.loop-tx.yielded in
    let tx = c.in-Some.tx.now in
    let hash = c.in-Some.hash.now in
    let turn = zip_turn txs c.args.hashes.now c.loop-tx.yielded c.into_iter-tx-iterator.result c.loop-tx.tx-iterator c.next.new.self c.next.result (search rules) (search rules) c.loop-tx.yielded_by (c.in-Some.tx, c.in-Some.hash) c.in-Some.is c.next.ensures.steps in
    record {
      put = λ chain are.
          let rows = transaction_records chain b in
          let own = turn.3 hash ∙ ap (λ l. get_or l i hash) are ∙ get_or-map (tx_hash b.currency) txs i tx hash turn.0 ∙ ap (tx_hash b.currency) (sym (turn.2 tx)) in
          c.in_ok-put_transaction.ensures.appended chain b own
          ∙ ap (λ before. before ++ rows tx) (c.loop-tx.invariant.put chain are)
          ∙ append_assoc c.args.out.now.items (flat_map rows (take i txs)) (rows tx)
          ∙ ap (λ more. c.args.out.now.items ++ more) (sym (flat_next rows txs i tx turn.0 (turn.2 tx)))
          ∙ ap (λ n. c.args.out.now.items ++ flat_map rows (take n txs)) (sym (length_push c.loop-tx.yielded (c.in-Some.tx, c.in-Some.hash)));
      begins = begins_on c.args.out.now.items c.loop-tx.out.items c.put_transaction.new.out.items c.loop-tx.invariant.begins c.put_transaction.ensures.begins;
    }
