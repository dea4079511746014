use Rattle.std.proofs.Common.{◌≡◌, ◌+◌, ◌<◌, ◌++◌, take, get_or, length, ap, sym, ◌∙◌, subst, append_assoc, append-nil, arith}
use Rattle.std.specs.List.{flat_map}
use Rattle.dubp_money.specs.Transactions.{records_at, records_of}
use Rattle.std.proofs.Math.Seq.{take-append_seam}
use Rattle.dubp_money.proofs.Begins.{begins_behind}
use Rattle.dubp_money.proofs.Written.{flat_next, hash_is}
use Rattle.dubp_money.proofs.telling.put_transactions.Goals as goal

pub loop-i-init : goal.loop-i-init
loop-i-init c = record { put = λ time. sym (append-nil c.args.out.now.items) }

pub loop-i-preserved : goal.loop-i-preserved
loop-i-preserved c =
    let currency = c.args.block.now.currency in
    let txs = c.args.block.now.transactions in
    let i = c.loop-i.i in
    let tx = c.index-txs-i.result in
    let within : i < length txs = omega (arith, ap length c.as_slice-txs.ensures) in
    let is : tx ≡ get_or txs i tx = subst (λ l. tx ≡ get_or l i tx) c.as_slice-txs.ensures c.index-txs-i.is in
    let hash = hash_is c.args.block.now c.args.hashes.now c.requires.hashes i tx c.index-hashes-i.result within is in
    record {
      put = λ time.
          c.in_ok-put_transaction.ensures.appended time
          ∙ ap (λ h. c.loop-i.out.items ++ records_at time h tx) hash
          ∙ ap (λ l. l ++ records_of time currency tx) (c.loop-i.invariant.put time)
          ∙ append_assoc c.args.out.now.items (flat_map (records_of time currency) (take i txs)) (records_of time currency tx)
          ∙ ap (λ l. c.args.out.now.items ++ l) (sym (flat_next (records_of time currency) txs i tx within is));
    }

pub returns-in_err-put_transaction-clause-begins : goal.returns-in_err-put_transaction-clause-begins
returns-in_err-put_transaction-clause-begins c =
    begins_behind c.args.out.now.items (flat_map (records_of 0 c.args.block.now.currency) (take c.loop-i.i c.args.block.now.transactions)) c.loop-i.out.items c.put_transaction.new.out.items
    (c.loop-i.invariant.put 0) c.put_transaction.ensures.begins

pub returns-clause-begins : goal.returns-clause-begins
returns-clause-begins c =
    let told = flat_map (records_of 0 c.args.block.now.currency) (take c.loop-i.i c.args.block.now.transactions) in
    ap (take (length c.args.out.now.items)) (c.loop-i.invariant.put 0) ∙ take-append_seam c.args.out.now.items told
