use Rattle.std.proofs.Common.{length, take, fold, get_or, ap, sym, subst, ◌∙◌, rules}
use Rattle.std.proofs.lemmas.List.{get_or-map, length_push}
use Rattle.std.proofs.lemmas.Slice.Zip.{zip_turn}
use Rattle.dubp_chain.specs.OfDocs.{tx_hash}
use Rattle.dubp_replay.specs.OfMoves.{Account, with_transaction}
use Rattle.dubp_statement.specs.Tallies.{IsTallyOf, moves_of}
use Rattle.dubp_statement.proofs.Lists.{begins_on, fold_next}
use Rattle.dubp_statement.proofs.blocks.add_transactions.Goals as goal

pub loop-tx-preserved : goal.loop-tx-preserved
loop-tx-preserved c =
    let b = c.args.block.now in
    let txs = b.transactions in
    let i = length c.loop-tx.yielded in
    let tx = c.in-Some.tx.now in
    let hash = c.in-Some.hash.now in
    let turn = zip_turn txs c.args.hashes.now c.loop-tx.yielded c.into_iter-tx-iterator.result c.loop-tx.tx-iterator c.next.new.self c.next.result (search rules) (search rules) c.loop-tx.yielded_by (c.in-Some.tx, c.in-Some.hash) c.in-Some.is c.next.ensures.steps in
    record {
      account = λ time a are is.
          let step = with_transaction c.args.cond.now b.number time b.currency in
          let own = turn.3 hash ∙ ap (λ l. get_or l i hash) are ∙ get_or-map (tx_hash b.currency) txs i tx hash turn.0 ∙ ap (tx_hash b.currency) (sym (turn.2 tx)) in
          let more = ap (λ n. fold step a (take n txs)) (length_push c.loop-tx.yielded (c.in-Some.tx, c.in-Some.hash)) ∙ fold_next step a txs i tx turn.0 (turn.2 tx) in
          subst (λ (x : Account). IsTallyOf x c.add_transaction.new.tally) (sym more)
          (c.in_ok-add_transaction.ensures.account b.currency time (fold step a (take i txs)) own (c.loop-tx.invariant.account time a are is));
      begins = begins_on (moves_of c.args.tally.now) (moves_of c.loop-tx.tally) (moves_of c.add_transaction.new.tally) c.loop-tx.invariant.begins c.add_transaction.ensures.begins;
    }
