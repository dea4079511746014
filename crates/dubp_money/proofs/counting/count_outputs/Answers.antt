use Rattle.std.proofs.Common.{◌≡◌, ◌+◌, ◌<◌, get_or, length, take, ap, ◌∙◌, subst, length-append, arith}
use Rattle.std.proofs.lemmas.List.{take_all}
use Rattle.dubp_docs.specs.Spelling.{tx_hash}
use Rattle.dubp_chain.specs.Money.{outputs_made}
use Rattle.dubp_money.specs.Transactions.{all_outputs}
use Rattle.dubp_money.proofs.Made.{outputs-length}
use Rattle.dubp_money.proofs.Written.{flat_next}
use Rattle.dubp_money.proofs.counting.count_outputs.Goals as goal

pub loop-tx-init : goal.loop-tx-init
loop-tx-init c = record { counted = λ time few. omega arith }

pub loop-tx-preserved : goal.loop-tx-preserved
loop-tx-preserved c = record {
  counted = λ time few.
      let currency = c.args.block.now.currency in
      let txs = c.args.block.now.transactions in
      let i = c.loop-tx.tx-index in
      let tx = c.tx-item.result in
      let within : i < length txs = omega (arith, ap length c.as_slice-tx-items.ensures) in
      let is : tx ≡ get_or txs i tx = subst (λ l. tx ≡ get_or l i tx) c.as_slice-tx-items.ensures c.tx-item.is in
      let more : length (all_outputs time currency (take (i + 1) txs)) ≡ length (all_outputs time currency (take i txs)) + length tx.outputs =
      omega (
        arith,
        ap length (flat_next (outputs_made time currency) txs i tx within is),
        length-append (all_outputs time currency (take i txs)) (outputs_made time currency tx),
        outputs-length time (tx_hash currency tx) 0 tx.outputs,
      ) in
      let was = c.loop-tx.invariant.counted time (omega (arith, few, more)) in
      omega (arith, few, more, was, c.len.ensures, c.place_behind-count.ensures (omega (arith, few, more, was, c.len.ensures)));
}

pub returns : goal.returns
returns c = λ time few.
    let txs = c.args.block.now.transactions in
    let all = ap (λ l. length (all_outputs time c.args.block.now.currency l)) (take_all c.loop-tx.tx-index txs (omega (arith, ap length c.as_slice-tx-items.ensures))) in
    c.loop-tx.invariant.counted time (omega (arith, few, all)) ∙ ap (λ n. c.args.made + n) all
